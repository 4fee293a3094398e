-- What is promised of the least levels: over any source bytes, whatever their levels hold.
use Rattle.std.specs.Prelude.{ℕ, suc, ◌%◌, ◌≤◌, ◌<◌, ◌≡◌, ◌↔◌, ◌≢◌, List, length, get_or}
use Rattle.facts.specs.Answers.{Passed, Refused}
use Rattle.facts.specs.Refusals.{Conditions, Fails, ◌or◌, Each, Exact}
use Rattle.netlist.specs.Kinds.{width, top_level}
use Rattle.netlist.specs.Records.{Netlist, netlist, record_count, record_at}
use Rattle.netlist.specs.Bytes.{level_place}
use Rattle.netlist.specs.Source.{Source, Unlevelled}
use Rattle.netlist.specs.Refusals.{BadCapacity, StructuresFail}
use Rattle.fanout.specs.Trees.{Tree, Legal, net_of}
use Rattle.levels.specs.Rules.{Height, KeepsRules}
use Rattle.levels.specs.Levels.{height, least_level, levels_answer, levels_area}

-- the number worked out is the height, and no other is
pub record HeightExact : Type 0 where
  pub computed : (s n : ℕ) → 2 ≤ s → Height s n (height s n)
  pub one : (s n a b : ℕ) → Height s n a → Height s n b → a ≡ b

-- an assignment that keeps the rules, and is at no record higher than any other that keeps them
pub record LeastOf (s : ℕ) (m : Netlist) (level : ℕ → ℕ) : Type 0 where
  pub keeps : KeepsRules s m level
  pub least : (other : ℕ → ℕ) → KeepsRules s m other → (k : ℕ) → k < m.size → level k ≤ other k

-- the levels worked out, whatever their size, are the least of all
abbrev pub LevelsLeast : Type 0
LevelsLeast = (source : List ℕ) (s : ℕ) → Unlevelled source s → LeastOf s (netlist source) (least_level s (netlist source))

-- 22: wherever the rules are kept, record k stands above 4,095
abbrev pub TooHigh : ℕ → Netlist → ℕ → Type 0
TooHigh s m k = (level : ℕ → ℕ) → KeepsRules s m level → top_level < level k

-- 22 of record k
abbrev pub HighFails : ℕ → Netlist → ℕ → Conditions
HighFails s m k = Fails 22 k (TooHigh s m k)

-- 1 to 6, 22, 23
abbrev pub LevelsFail : List ℕ → ℕ → List ℕ → Conditions
LevelsFail source s area =
    (Fails 1 0 (BadCapacity s) or StructuresFail source)
    or Each (record_count source) (HighFails s (netlist source))
    or Fails 23 0 (length area ≢ length source)

-- each number is answered exactly where its condition is the first that holds, and a call is accepted exactly if none does
abbrev pub LevelsExact : Type 0
LevelsExact = (source : List ℕ) (s : ℕ) (area : List ℕ) → Exact (LevelsFail source s area) (levels_answer source s area)

-- no levels up to 4,095 keep the rules
abbrev pub NoneWithin : ℕ → Netlist → Type 0
NoneWithin s m = (level : ℕ → ℕ) → KeepsRules s m level → ((k : ℕ) → k < m.size → level k ≤ top_level) → ⊥

-- so 22 is answered, at some record, exactly if 1 to 6 pass and no levels up to 4,095 keep the rules
abbrev pub HighExactly : Type 0
HighExactly =
    (source : List ℕ) (s : ℕ) (area : List ℕ) →
    ((k : ℕ) × (levels_answer source s area ≡ Refused 22 k)) ↔ (Unlevelled source s × NoneWithin s (netlist source))

-- a refused call leaves the area
abbrev pub LevelsKeep : Type 0
LevelsKeep =
    (source : List ℕ) (s : ℕ) (area : List ℕ) (number place : ℕ) →
    levels_answer source s area ≡ Refused number place → levels_area source s area ≡ area

-- a copy of a source that differs in its levels alone, and they are the least
pub record LevelledCopy (source : List ℕ) (s : ℕ) (copy : List ℕ) : Type 0 where
  pub long : length copy ≡ length source
  -- every byte outside the level fields is the source's
  pub kept : (i : ℕ) → i % width ≢ level_place → i % width ≢ suc level_place → get_or copy i 0 ≡ get_or source i 0
  -- its levels keep the rules, and every assignment that keeps them, bounded or not, is at least as high at every record
  pub least : LeastOf s (netlist source) (λ k. (record_at copy k).level)
  -- none of 2 to 7 refuses it
  pub is_source : Source copy
  -- every net of it has a legal tree, for every driver capacity from 1 on
  pub trees : (c d : ℕ) → 0 < c → (t : Tree) × Legal c s (net_of (netlist copy) d) t

-- what an accepted call leaves in the area
abbrev pub LevelsWritten : Type 0
LevelsWritten =
    (source : List ℕ) (s : ℕ) (area : List ℕ) → levels_answer source s area ≡ Passed → LevelledCopy source s (levels_area source s area)
