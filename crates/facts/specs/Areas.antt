-- Bytes put into a lent area.
use Rattle.std.specs.Prelude.{ℕ, ◌+◌, List, ◌++◌, length, take, drop}

-- an area in which bytes are put at a place: what lies around them stays
abbrev pub put : List ℕ → ℕ → List ℕ → List ℕ
put area at bytes = take at area ++ (bytes ++ drop (at + length bytes) area)

-- an area in which bytes are put from its start on: what lies beyond them stays
abbrev pub onto : List ℕ → List ℕ → List ℕ
onto bytes area = bytes ++ drop (length bytes) area
