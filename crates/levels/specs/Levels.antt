-- Specification 2.7, 4.10: the least levels as they are worked out, the call's answer, and what its area holds afterwards.
use Rattle.std.specs.Prelude.{ℕ, zero, suc, ◌+◌, ◌^◌, Bool, cond, not, List, [], ◌∷◌, ◌++◌, length, get_or, ltb, leb, eqb}
use Rattle.facts.specs.Answers.{Checked}
use Rattle.facts.specs.Checks.{check, ◌and_then◌, unless_refused, scan}
use Rattle.facts.specs.Sums.{largest, seek}
use Rattle.netlist.specs.Kinds.{top_level, arity}
use Rattle.netlist.specs.Records.{Netlist, netlist, record_count, fanin, feeds, is_output}
use Rattle.netlist.specs.Bytes.{with_levels}
use Rattle.netlist.specs.Checks.{capacity_check, structure_checks}

-- s to the power h is at least n
abbrev pub carries : ℕ → ℕ → ℕ → Bool
carries s n h = leb n (s ^ h)

-- the height of n sinks, looked for from 0 on
unfoldable pub height : ℕ → ℕ → ℕ
height s n = seek (carries s n) 0 n

-- how low a sink of d may stand, by d's own level
abbrev pub sink_level : ℕ → Netlist → (ℕ → ℕ) → ℕ → ℕ
sink_level s m level d = level d + suc (height s (feeds m d))

-- how low record k may stand, by its fanins' levels
abbrev pub over_fanins : ℕ → Netlist → (ℕ → ℕ) → ℕ → ℕ
over_fanins s m level k = largest (λ j. sink_level s m level (fanin m k j)) (arity (m.at k).kind)

-- how low the first n records may stand, by rising index: each by those before it
unfoldable pub lowest_below : ℕ → Netlist → ℕ → List ℕ
lowest_below s m zero = []
lowest_below s m (suc k) = lowest_below s m k ++ (over_fanins s m (λ d. get_or (lowest_below s m k) d 0) k ∷ [])

-- how low record k may stand
unfoldable pub lowest : ℕ → Netlist → ℕ → ℕ
lowest s m k = get_or (lowest_below s m (suc k)) k 0

-- that of an output, 0 of another record
abbrev pub output_lowest : ℕ → Netlist → ℕ → ℕ
output_lowest s m k = cond (is_output m k) (lowest s m k) 0

-- the level that all outputs share
abbrev pub output_level : ℕ → Netlist → ℕ
output_level s m = largest (output_lowest s m) m.size

-- the least level of record k
abbrev pub least_level : ℕ → Netlist → ℕ → ℕ
least_level s m k = cond (is_output m k) (output_level s m) (lowest s m k)

-- 22 of record k: the level that it is to have is above 4,095
abbrev pub high_check : (ℕ → ℕ) → ℕ → Checked
high_check level k = check 22 k (ltb top_level (level k))

-- 23: the area is not as long as the source
abbrev pub length_check : List ℕ → List ℕ → Checked
length_check source area = check 23 0 (not (eqb (length area) (length source)))

-- 22, then 23, of a source that is to have these levels
abbrev pub copy_checks : (ℕ → ℕ) → List ℕ → List ℕ → Checked
copy_checks level source area = scan (high_check level) 0 (record_count source) and_then length_check source area

-- the source with these levels
abbrev pub levelled : (ℕ → ℕ) → List ℕ → List ℕ
levelled level source = with_levels level source (record_count source)

-- 22, then 23, of the least levels
abbrev pub least_checks : List ℕ → ℕ → List ℕ → Checked
least_checks source s area = copy_checks (least_level s (netlist source)) source area

-- the source with its least levels
abbrev pub least_copy : List ℕ → ℕ → List ℕ
least_copy source s = levelled (least_level s (netlist source)) source

-- 1 to 6, 22, 23
unfoldable pub levels_answer : List ℕ → ℕ → List ℕ → Checked
levels_answer source s area = (capacity_check s and_then structure_checks source) and_then least_checks source s area

-- the area: that copy; a refusal leaves it
unfoldable pub levels_area : List ℕ → ℕ → List ℕ → List ℕ
levels_area source s area = unless_refused (levels_answer source s area) (least_copy source s) area
