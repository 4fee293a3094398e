-- Laws of the table, of the number of lines and of the totals: a record is counted in one entry of the table, which holds the counts of every level once all are.
use Prim.Native.Nat.{ℕ, zero, suc, ◌+◌, ◌*◌, ◌/◌, ◌%◌, ◌^◌, max, ◌≤◌, ◌<◌}
use native.Mathlib.Decide.{ℕ_discrete}
use native.Mathlib.Numerals.{add-one}
use native.Mathlib.Omega.{arith}
use mathlib.Core.Path.{◌≡◌, refl, sym, ap, ◌∙◌}
use mathlib.Core.Bool.{Bool, true, false, cond, not, ◌&&◌}
use mathlib.Core.List.{List, [], ◌∷◌}
use lib.Dec.{eqb}
use lib.ListN.{length, get_or, set, replicate, length-set, length-replicate}
use lib.Seq.{ext_get_or}
use borrow.Author.Tests.{eq-eqb, ne_eqb}
use Rattle.facts.specs.Lists.{joined}
use Rattle.facts.specs.Sums.{bit, sum, count, any, largest}
use Rattle.facts.proofs.Lists.{zeros_at, added_at, length_joined, get_or_joined}
use Rattle.facts.proofs.Sums.{count_cong, count_le, count_suc, any_none}
use Rattle.netlist.specs.declared.Record.{Record}
use Rattle.netlist.specs.Kinds.{mapped_limit, input, output, buffer, is_gate}
use Rattle.netlist.specs.Records.{Netlist, netlist, record_count, record_at}
use Rattle.netlist.specs.Counts.{count_kind, count_of, gates, buffer_count}
use Rattle.level_sheet.specs.Counts.{columns, count_at, counts_at, totals, line_count}
use Rattle.level_sheet.specs.PrivateTable.{levels, table_size, column_of, table_index, table_of, Countable}

-- whether two tests differ
abbrev differ : Bool → Bool → Bool
differ a b = cond a (not b) b

agree : (a b : Bool) → differ a b ≡ false → a ≡ b
agree true true e = refl
agree true false e = e
agree false true e = sym e
agree false false e = refl

-- two tests of a kind that agree on all kinds
by_kind : (p q : ℕ → Bool) (kind : ℕ) → kind ≤ buffer → any (λ k. differ (p k) (q k)) (suc buffer) ≡ false → p kind ≡ q kind
by_kind p q kind l e = agree (p kind) (q kind) ((any_none (λ k. differ (p k) (q k)) (suc buffer)).0 e kind (omega arith))

column_inside : (kind : ℕ) → column_of kind < columns
column_inside kind = go (eqb kind input) (is_gate kind) (eqb kind buffer)
  where
    go : (i g b : Bool) → cond i 0 (cond g 1 (cond b 2 3)) < columns
    go true g b = omega arith
    go false true b = omega arith
    go false false true = omega arith
    go false false false = omega arith

-- two entries are the same exactly if column and level are
same_index : (level column k j : ℕ) → column < columns → j < columns →
    (eqb column j && eqb level k) ≡ eqb (columns * level + column) (columns * k + j)
same_index level column k j a b =
    elim (ℕ_discrete column j) [
      | yes e ↦ elim (ℕ_discrete level k) [
        | yes f ↦ rw (eq-eqb column j e, eq-eqb level k f) (sym (eq-eqb (columns * level + column) (columns * k + j) (omega arith)))
        | no g ↦ rw (eq-eqb column j e, ne_eqb level k g) (sym (ne_eqb (columns * level + column) (columns * k + j) (λ h. g (omega arith))))
      ]
      | no g ↦ rw (ne_eqb column j g) (sym (ne_eqb (columns * level + column) (columns * k + j) (λ h. g (omega arith))))
    ]

module _ (m : Netlist) (c : Countable m) where
  -- the records of one sort at a level are those counted in its entry
  module _ (test : ℕ → Bool) (j level : ℕ) (h : j < columns) where
    sort_counts : any (λ kind. differ (test kind) (eqb (column_of kind) j)) (suc buffer) ≡ false →
        count_at m test level ≡ count (λ i. eqb (table_index (m.at i)) (columns * level + j)) m.size
    unfolding count_at
    sort_counts e =
        count_cong _ _ m.size (λ i l.
        ap (λ (b : Bool). b && eqb (m.at i).level level) (by_kind test (λ kind. eqb (column_of kind) j) (m.at i).kind (c.kinds i l) e)
        ∙ same_index (m.at i).level (column_of (m.at i).kind) level j (column_inside (m.at i).kind) h)

  pub line_counts : (level j : ℕ) → j < columns →
      get_or (counts_at m level) j 0 ≡ count (λ i. eqb (table_index (m.at i)) (columns * level + j)) m.size
  unfolding any
  line_counts level zero h = sort_counts (λ k. eqb k input) 0 level h refl
  line_counts level (suc zero) h = sort_counts is_gate 1 level h refl
  line_counts level (suc (suc zero)) h = sort_counts (λ k. eqb k buffer) 2 level h refl
  line_counts level (suc (suc (suc zero))) h = sort_counts (λ k. eqb k output) 3 level h refl
  line_counts level (suc (suc (suc (suc j)))) h = absurd (omega arith)

-- the records below k are counted
pub record Counting (m : Netlist) (all : ℕ) (table : List ℕ) (k : ℕ) : Type 0 where
  pub size : all ≡ m.size
  pub long : length table ≡ table_size
  pub so_far : (x : ℕ) → get_or table x 0 ≡ count (λ i. eqb (table_index (m.at i)) x) k

module _ (m : Netlist) (all : ℕ) where
  pub counting_start : (table : List ℕ) → all ≡ m.size → table ≡ replicate table_size 0 → Counting m all table 0
  unfolding count sum
  counting_start table e z =
      record { size = e; long = ap length z ∙ length-replicate {A = ℕ} table_size 0; so_far = zeros_at table_size table z }

  module _ (c : Countable m) (table : List ℕ) (k : ℕ) (s : Counting m all table k) where
    module _ (h : k < all) (r : Record) (e : r ≡ m.at k) where
      module _ (x : ℕ) (f : (x ≡ table_index r) × (x < table_size)) where
        pub index_inside : x < length table
        index_inside = omega (arith, f.1, s.long)

        pub more_fits : get_or table x 0 + 1 < 2 ^ 32
        more_fits = omega (arith, s.so_far x, count_le (λ i. eqb (table_index (m.at i)) x) k, c.few, s.size)

        pub counting_more : Counting m all (set table x (get_or table x 0 + 1)) (k + 1)
        counting_more =
            record {
              size = s.size;
              long = length-set table x _ ∙ s.long;
              so_far = λ y.
                  added_at table x y index_inside
                  ∙ omega (
                    arith,
                    s.so_far y,
                    ap (count (λ i. eqb (table_index (m.at i)) y)) (add-one k),
                    count_suc (λ i. eqb (table_index (m.at i)) y) k,
                    ap (λ (z : ℕ). bit (eqb z y)) (f.0 ∙ ap table_index e),
                  );
            }

    -- once all are, the table is the counts of every level
    pub counting_end : k ≤ all → all ≤ k → table ≡ table_of m
    unfolding table_of
    counting_end l h =
        ext_get_or 0 table (joined (counts_at m) levels) (s.long ∙ sym (length_joined (counts_at m) columns (λ i. refl) levels)) (λ x b. entry x (omega (arith, s.long)))
      where
        entry : (x : ℕ) → x < table_size → get_or table x 0 ≡ get_or (joined (counts_at m) levels) x 0
        entry x b =
            let parts : columns * (x / columns) + x % columns ≡ x = omega arith in
            let k_all : k ≡ m.size = omega (arith, s.size) in
            s.so_far x
            ∙ ap (count (λ i. eqb (table_index (m.at i)) x)) k_all
            ∙ ap (λ (y : ℕ). count (λ i. eqb (table_index (m.at i)) y) m.size) (sym parts)
            ∙ sym (line_counts m c (x / columns) (x % columns) (omega arith))
            ∙ sym (get_or_joined (counts_at m) columns (λ i. refl) levels (x / columns) (x % columns) 0 (omega arith) (omega arith))
            ∙ ap (λ (y : ℕ). get_or (joined (counts_at m) levels) y 0) parts

-- one more than the highest level of the records below k
abbrev pub LinesSoFar : List ℕ → ℕ → ℕ → Type 0
LinesSoFar mapped lines k = lines ≡ largest (λ i. suc (record_at mapped i).level) k

module _ (mapped : List ℕ) where
  pub lines_start : LinesSoFar mapped 0 0
  unfolding largest
  lines_start = refl

  module _ (lines k : ℕ) (s : LinesSoFar mapped lines k) where
    pub lines_more : (r : Record) (x next : ℕ) → r ≡ record_at mapped k → x ≡ r.level → next ≡ max lines (x + 1) → LinesSoFar mapped next (k + 1)
    unfolding largest
    lines_more r x next e f g =
        let level : x + 1 ≡ suc (record_at mapped k).level = add-one x ∙ ap suc (f ∙ ap (λ (q : Record). q.level) e) in
        g ∙ rw (add-one k, level, s) refl

    pub lines_end : (all : ℕ) → all ≡ record_count mapped → k ≤ all → all ≤ k → lines ≡ line_count (netlist mapped)
    unfolding line_count
    lines_end all e l h =
        let q : k ≡ record_count mapped = omega arith in
        s ∙ ap (largest (λ i. suc (record_at mapped i).level)) q

-- the totals, counted one by one
module _ (m : Netlist) where
  pub total_fits : (test : ℕ → Bool) (x : ℕ) → x ≡ count_kind m test → m.size ≤ mapped_limit → x < 2 ^ 32
  total_fits test x e l = omega (arith, count_le (λ k. test (m.at k).kind) m.size)

  pub gates_fit : (x : ℕ) → x ≡ gates m → m.size ≤ mapped_limit → x < 2 ^ 32
  unfolding gates
  gates_fit x e l = total_fits is_gate x e l

  pub totals_are : (a b c d : ℕ) → a ≡ count_of m input → b ≡ gates m → c ≡ count_of m buffer → d ≡ count_of m output →
      a ∷ b ∷ c ∷ d ∷ [] ≡ totals m
  unfolding buffer_count
  totals_are a b c d e f g h = rw (e, f, g, h)
