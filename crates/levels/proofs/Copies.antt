-- A source with its least levels: it is a source, it differs in level fields alone, and each of its nets has a tree.
use Prim.Native.Nat.{ℕ, suc, ◌+◌, ◌*◌, ◌/◌, ◌%◌, ◌≤◌, ◌<◌}
use native.Mathlib.Omega.{arith}
use mathlib.Core.Path.{◌≡◌, sym, ap, ap₂, ◌∙◌}
use mathlib.Core.Bool.{◌&&◌}
use mathlib.Core.List.{List}
use lib.ListN.{length}
use lib.Dec.{ltb, eqb}
use borrow.Author.Tests.{ltb-true, eqb-true, eq-eqb}
use Rattle.facts.specs.Sums.{count₂, seek}
use Rattle.facts.proofs.Bools.{and_l, and_r}
use Rattle.facts.proofs.Loops.{seek_true, seek_least}
use Rattle.facts.proofs.Sums.{count₂_flat, count₂_cong}
use Rattle.netlist.specs.declared.Record.{Record}
use Rattle.netlist.specs.Kinds.{width, slots, top_level, output, arity}
use Rattle.netlist.specs.Records.{Netlist, netlist, record_count, record_at, slot, used, fanin, names, feeds, is_output, depth}
use Rattle.netlist.specs.Source.{IsSource, Source, Unlevelled}
use Rattle.netlist.proofs.Levels.{length_levels, levels_other, record_levelled}
use Rattle.fanout.specs.Nets.{row}
use Rattle.fanout.specs.Trees.{Tree, Legal, net_of}
use Rattle.fanout.proofs.Rows.{row_of_net}
use Rattle.fanout.proofs.Far.{far_tree}
use Rattle.levels.specs.Rules.{KeepsRules}
use Rattle.levels.specs.Levels.{height, least_level, levelled}
use Rattle.levels.specs.Promises.{LeastOf, LevelledCopy}
use Rattle.levels.proofs.Heights.{height_exact}
use Rattle.levels.proofs.Lowest.{levels_least}

-- a source whose levels keep the rules has a legal tree for every net
rules_tree : (c s d : ℕ) (m : Netlist) → 0 < c → 2 ≤ s → IsSource m → KeepsRules s m (λ k. (m.at k).level) → (t : Tree) × Legal c s (net_of m d) t
unfolding feeds
rules_tree c s d m some two source keeps =
    far_tree c s (height s (feeds m d)) (net_of m d) (row m d) some (omega arith) (row_of_net m d source)
    (omega (arith, count₂_flat (names m d) slots m.size (omega arith), (height_exact.computed s (feeds m d) two).enough))
    (λ x l e.
    let at : fanin m (x / slots) (x % slots) ≡ d = eqb-true _ d (and_r (used m (x / slots) (x % slots)) _ e) in
    let u = ltb-true (x % slots) (arity (m.at (x / slots)).kind) (and_l (used m (x / slots) (x % slots)) _ e) in
    let high =
    keeps.sinks (x / slots) (x % slots) (height s (feeds m d)) (omega arith) u
    (rw at (height_exact.computed s (feeds m d) two)) in
    let above : (m.at d).level + suc (height s (feeds m d)) ≤ (m.at (x / slots)).level = rw at at high in
    omega arith)

module _ (source : List ℕ) (s : ℕ) (u : Unlevelled source s)
    (low : (k : ℕ) → k < record_count source → least_level s (netlist source) k ≤ top_level) where
  abbrev level : ℕ → ℕ
  level = least_level s (netlist source)

  abbrev copy : List ℕ
  copy = levelled level source

  room : width * record_count source ≤ length source
  room = omega arith

  long : length copy ≡ length source
  long = length_levels level source (record_count source) room

  size : record_count copy ≡ record_count source
  size = ap (λ (n : ℕ). n / width) long

  -- each record is the source's but for its level
  module _ (k : ℕ) (l : k < record_count source) where
    is : record_at copy k ≡ record { kind = (record_at source k).kind; inversion = (record_at source k).inversion; level = level k; slots = (record_at source k).slots }
    is = record_levelled level source (record_count source) k room l (omega (arith, low k l))

    kind_is : (record_at copy k).kind ≡ (record_at source k).kind
    kind_is = ap (λ (r : Record). r.kind) is

    level_is : (record_at copy k).level ≡ level k
    level_is = ap (λ (r : Record). r.level) is

    fanin_is : (j : ℕ) → fanin (netlist copy) k j ≡ fanin (netlist source) k j
    fanin_is j = ap (λ (r : Record). slot r j) is

  -- so the records are named as before, and have as many sinks
  feeds_are : (d : ℕ) → feeds (netlist copy) d ≡ feeds (netlist source) d
  unfolding feeds
  feeds_are d =
      ap (count₂ (names (netlist copy) d) slots) size
      ∙ count₂_cong _ _ slots (record_count source)
      (λ i j l h. ap₂ (λ (kind x : ℕ). ltb j (arity kind) && eqb x d) (kind_is i l) (fanin_is i l j))

  -- the levels in the copy are the least of all
  copy_least : LeastOf s (netlist source) (λ k. (record_at copy k).level)
  copy_least =
      let all = levels_least source s u in
      let rules = all.keeps in
      record {
        keeps =
            record {
              inputs = λ k l e. level_is k l ∙ rules.inputs k l e;
              outputs = λ k i l h e f. level_is k l ∙ rules.outputs k i l h e f ∙ sym (level_is i h);
              sinks = λ k j h l v x.
                  let f = u.source.structured.earlier k j l v in
                  omega (arith, level_is k l, level_is (fanin (netlist source) k j) (omega arith), rules.sinks k j h l v x);
            };
        least = λ other o k l. omega (arith, level_is k l, all.least other o k l);
      }

  abbrev rules : KeepsRules s (netlist source) (λ k. (record_at copy k).level)
  rules = copy_least.keeps

  inside : (k : ℕ) → k < record_count copy → k < record_count source
  inside k l = omega (arith, size)

  used_is : (k j : ℕ) → k < record_count source → j < arity (record_at copy k).kind → j < arity (record_at source k).kind
  used_is k j l u = rw (kind_is k l) at u

  -- and keep the rules of the copy itself
  copy_rules : KeepsRules s (netlist copy) (λ k. (record_at copy k).level)
  copy_rules =
      record {
        inputs = λ k l e. let h = inside k l in rules.inputs k h (sym (kind_is k h) ∙ e);
        outputs = λ k i l h e f.
            let a = inside k l in
            let c = inside i h in
            rules.outputs k i a c (sym (kind_is k a) ∙ e) (sym (kind_is i c) ∙ f);
        sinks = λ k j h l u x.
            let a = inside k l in
            let d = fanin_is k a j in
            rw d (rules.sinks k j h a (used_is k j a u) (rw (← feeds_are (fanin (netlist source) k j), ← d) x));
      }

  -- the first output gives D
  output_depth : (k : ℕ) → k < record_count copy → (record_at copy k).kind ≡ output → (record_at copy k).level ≡ depth (netlist copy)
  unfolding depth
  output_depth k l e =
      let first = seek (is_output (netlist copy)) 0 (record_count copy) in
      let found : first < record_count copy =
      omega (arith, seek_least (is_output (netlist copy)) 0 (record_count copy) k (omega arith) (eq-eqb (record_at copy k).kind output e))
      in
      copy_rules.outputs k first l found e
      (eqb-true (record_at copy first).kind output (seek_true (is_output (netlist copy)) 0 (record_count copy) (omega arith)))

  copy_source : Source copy
  copy_source =
      let m = u.source.structured in
      record {
        whole = ap (λ (n : ℕ). n % width) long ∙ u.source.whole;
        is_source =
            record {
              few = omega (arith, size, m.few);
              kinds = λ k l. let h = inside k l in rw (kind_is k h) (m.kinds k h);
              inversions = λ k l. let h = inside k l in rw (kind_is k h, ap (λ (r : Record). r.inversion) (is k h)) (m.inversions k h);
              earlier = λ k j l v. let h = inside k l in rw (fanin_is k h j) (m.earlier k j h (used_is k j h v));
              no_output = λ k j l v.
                  let h = inside k l in
                  let w = used_is k j h v in
                  rw (fanin_is k h j, kind_is (fanin (netlist source) k j) (omega (arith, m.earlier k j h w))) (m.no_output k j h w);
              empty = λ k j l v w. let h = inside k l in fanin_is k h j ∙ m.empty k j h (rw (kind_is k h) at v) w;
              lower = λ k j l v.
                  omega (arith, copy_rules.sinks k j _ l v (height_exact.computed s (feeds (netlist copy) (fanin (netlist copy) k j)) u.low));
              inputs = copy_rules.inputs;
              levels = λ k l. let h = inside k l in omega (arith, level_is k h, low k h);
              outputs = output_depth;
            };
      }

  pub levelled_copy : LevelledCopy source s copy
  levelled_copy =
      record {
        long = long;
        kept = λ i a c. levels_other level source (record_count source) i room a c;
        least = copy_least;
        is_source = copy_source;
        trees = λ c d some. rules_tree c s d (netlist copy) some u.low copy_source.is_source copy_rules;
      }
