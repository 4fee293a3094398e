-- The promises of the list of counts.
use Prim.Native.Nat.{ℕ, ◌*◌, ◌<◌, ◌%◌}
use mathlib.Core.Path.{◌≡◌, refl, sym, ◌∙◌, ap, subst}
use mathlib.Core.Logic.{◌↔◌, ⊎_elim}
use mathlib.Core.Bool.{Bool, true, false}
use mathlib.Core.List.{List}
use native.Mathlib.Omega.{arith}
use lib.ListN.{length, get_or}
use Rattle.facts.specs.Bytes.{four}
use Rattle.facts.specs.Refusals.{row_of, Fails, Each}
use Rattle.facts.proofs.Bytes.{four_same}
use Rattle.facts.proofs.Lists.{part_joined}
use Rattle.facts.proofs.Stored.{fours, length_fours}
use Rattle.facts.proofs.Reflect.{less, unlike, either_is}
use Rattle.facts.proofs.Refusals.{exact, rows_before, one_row, within_one, first_check, first_then, first_after, first_scan}
use Rattle.netlist.specs.declared.Capacities.{Capacities}
use Rattle.netlist.specs.Records.{netlist}
use Rattle.netlist.proofs.Source.{input_passed}
use Rattle.netlist.proofs.Refusals.{input_rows, input_first}
use Rattle.fanout.specs.declared.Count.{Count}
use Rattle.fanout.specs.declared.Count.TheVariants.{Fewest, NoTree}
use Rattle.fanout.specs.Nets.{net_has_tree, tree_size}
use Rattle.fanout.specs.Answer.{no_tree, count_numbers, count_answer}
use Rattle.fanout.specs.Promises.{NoNetTree, LeastNetTree, Asked}
use Rattle.fanout.proofs.Call.{driver_is, no_tree_exactly, fewest_exactly}
use Rattle.fanout.proofs.Numbers.{numbers_exactly}
use Rattle.nets.specs.Counts.{index_limit, index_count, index_at, bad_lists, index_check, list_checks, counts_answer, single_count, counts_area}
use Rattle.nets.specs.Promises.{BadLists, IndexFails, CountsExact, CountsKeep, count_bytes, CountsListed}
use Rattle.nets.proofs.ListedCounts.{list_input, list_long, list_driver, asked_counted}

lists_are : (records counts : List ℕ) → (bad_lists records counts ≡ true) ↔ BadLists records counts
lists_are records counts =
    either_is (either_is (unlike (length records % 2) 0) (less index_limit (index_count records))) (unlike (length counts) (2 * length records))

-- 21 stands before 20
lists_row : (records counts : List ℕ) (n p : ℕ) → Fails 21 0 (BadLists records counts) n p → row_of n ≡ row_of 21
lists_row records counts n p f = one_row 21 0 _ n p f

indices_row : (source records : List ℕ) (n p : ℕ) → Each (index_count records) (IndexFails source records) n p → row_of n ≡ row_of 20
indices_row source records n p f = one_row 20 f.0 _ n p f.2

pub counts_exact : CountsExact
unfolding counts_answer list_checks
counts_exact source caps records counts =
    exact
    (first_after
    (rows_before (row_of 7) (input_rows source caps)
    (λ n p. ⊎_elim (λ f. omega (arith, lists_row records counts n p f)) (λ f. omega (arith, indices_row source records n p f))))
    (input_first source caps)
    (λ e.
    first_then
    (rows_before (row_of 21) (λ n p f. omega (arith, lists_row records counts n p f)) (λ n p f. omega (arith, indices_row source records n p f)))
    (first_check 21 0 (lists_are records counts))
    (first_scan (index_check source records) (IndexFails source records) (row_of 20) 20 20 (λ k. within_one 20 k _) (index_count records)
    (λ k l. first_check 20 k (driver_is source (index_at records k) (input_passed source caps e).is_source)))))

pub counts_keep_lem : CountsKeep
unfolding counts_area
counts_keep_lem source caps records counts number place e = rw e

-- the third number of a driver's count, by whether its net has a tree
module _ (source : List ℕ) (caps : Capacities) (d : ℕ) (q : Asked source caps d) (bytes : List ℕ) (e : bytes ≡ four (single_count source caps d)) where
  third : (a : Count) → count_answer source caps d ≡ a → bytes ≡ four (get_or (count_numbers a) 2 0)
  third a f = e ∙ ap (λ (a : Count). four (get_or (count_numbers a) 2 0)) f

  module _ (m : ℕ) (f : count_answer source caps d ≡ Fewest m) where
    counted : bytes ≡ four m
    unfolding count_numbers
    counted = third (Fewest m) f

    least : LeastNetTree (netlist source) caps d m
    least = ((fewest_exactly source caps d m).0 f).1

    small : m < no_tree
    small = (((numbers_exactly source caps d).fewest m).1 (q, least)).1

    tree_none : (bytes ≡ four no_tree) ↔ NoNetTree (netlist source) caps d
    tree_none = (
      λ g. absurd (let z = four_same m no_tree (omega (arith, small)) (omega arith) (sym counted ∙ g) in omega (arith, small)),
      λ none. absurd (none least.tree least.legal),
    )

    tree_fewest : (n : ℕ) → ((bytes ≡ four n) × (n < no_tree)) ↔ LeastNetTree (netlist source) caps d n
    unfolding count_numbers
    tree_fewest n = (
      λ g. subst (LeastNetTree (netlist source) caps d) (four_same m n (omega (arith, small)) (omega (arith, g.1)) (sym counted ∙ g.0)) least,
      λ x. (
        third (Fewest n) ((fewest_exactly source caps d n).1 (q, x)),
        (((numbers_exactly source caps d).fewest n).1 (q, x)).1,
      ),
    )

  module _ (f : count_answer source caps d ≡ NoTree) where
    none : NoNetTree (netlist source) caps d
    none = ((no_tree_exactly source caps d).0 f).1

    bare : bytes ≡ four no_tree
    unfolding count_numbers
    bare = third NoTree f

    none_none : (bytes ≡ four no_tree) ↔ NoNetTree (netlist source) caps d
    none_none = (λ g. none, λ x. bare)

    none_fewest : (n : ℕ) → ((bytes ≡ four n) × (n < no_tree)) ↔ LeastNetTree (netlist source) caps d n
    none_fewest n = (
      λ g. absurd (let z = four_same no_tree n (omega arith) (omega (arith, g.1)) (sym bare ∙ g.0) in omega (arith, g.1)),
      λ x. absurd (none x.tree x.legal),
    )

  -- one of the two is the answer
  by_tree : (b : Bool) → net_has_tree (netlist source) caps d ≡ b →
      ((bytes ≡ four no_tree) ↔ NoNetTree (netlist source) caps d)
      × ((n : ℕ) → ((bytes ≡ four n) × (n < no_tree)) ↔ LeastNetTree (netlist source) caps d n)
  by_tree true t =
      let f : count_answer source caps d ≡ Fewest (tree_size (netlist source) caps d) = asked_counted source caps d q ∙ rw t refl in
      (tree_none _ f, tree_fewest _ f)
  by_tree false t =
      let f : count_answer source caps d ≡ NoTree = asked_counted source caps d q ∙ rw t refl in
      (none_none f, none_fewest f)

pub counts_listed : CountsListed
unfolding counts_area
counts_listed source caps records counts h =
    record {
      long = ap length area ∙ length_fours each n ∙ sym (list_long source caps records counts h);
      single = single;
      no_trees = λ k l. (by k l).0;
      fewest = λ k m l. (by k l).1 m;
    }
  where
    n : ℕ
    n = index_count records

    each : ℕ → ℕ
    each k = single_count source caps (index_at records k)

    area : counts_area source caps records counts ≡ fours each n
    area = rw h

    single : (k : ℕ) → k < n → count_bytes (counts_area source caps records counts) k ≡ four (each k)
    single k l = ap (λ (b : List ℕ). count_bytes b k) area ∙ part_joined (λ i. four (each i)) 4 (λ i. refl) n k l

    by : (k : ℕ) → k < n →
        ((count_bytes (counts_area source caps records counts) k ≡ four no_tree) ↔ NoNetTree (netlist source) caps (index_at records k))
        × ((m : ℕ) →
        ((count_bytes (counts_area source caps records counts) k ≡ four m) × (m < no_tree))
        ↔ LeastNetTree (netlist source) caps (index_at records k) m)
    by k l =
        by_tree source caps (index_at records k)
        (record { passed = list_input source caps records counts h; driver = list_driver source caps records counts h k l })
        _ (single k l) (net_has_tree (netlist source) caps (index_at records k)) refl
