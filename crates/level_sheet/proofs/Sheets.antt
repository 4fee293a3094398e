-- Laws of a whole sheet: the lines of the table are those of the netlist, and all of them fit into the text.
use Prim.Native.Nat.{ℕ, zero, suc, ◌+◌, ◌-◌, ◌*◌, ◌^◌, ◌≤◌, ◌<◌}
use native.Mathlib.Omega.{arith}
use mathlib.Core.Path.{◌≡◌, refl, sym, ap, ap₂, ◌∙◌}
use mathlib.Core.List.{List, [], ◌∷◌, ◌++◌}
use lib.Dec.{eqb}
use lib.ListN.{length, get_or, take, drop, length-append}
use Rattle.facts.specs.Answers.{Passed, Refused}
use Rattle.facts.specs.Areas.{onto}
use Rattle.facts.specs.Lists.{joined}
use Rattle.facts.proofs.Lists.{length_joined, part_joined, joined_cong, joined_short}
use Rattle.facts.proofs.Sums.{count_le, largest_le}
use Rattle.netlist.specs.declared.Capacities.{Capacities}
use Rattle.netlist.specs.Kinds.{input, output, buffer, is_gate}
use Rattle.netlist.specs.Records.{Netlist, netlist}
use Rattle.netlist.specs.Counts.{gates, buffer_count}
use Rattle.verifier.specs.Checks.{verify_checks}
use Rattle.verifier.proofs.Accepted.{checks_passed}
use Rattle.level_sheet.specs.Counts.{columns, counts_at, totals, line_count}
use Rattle.level_sheet.specs.Text.{decimal, spaced, numbers_behind, line, level_line, sum_word, sum_line, sheet_of, refusal_line, sheet_text, line_limit, text_limit}
use Rattle.level_sheet.specs.PrivateTable.{levels, table_size, table_index, table_of, table_line, Countable, LinesFit}
use Rattle.level_sheet.proofs.Promises.{countable}
use Rattle.level_sheet.proofs.Table.{line_counts}
use Rattle.level_sheet.proofs.Decimals.{decimal_short}
use Rattle.level_sheet.proofs.Lines.{rest_room, length_onto, onto_behind}

-- numbers of up to w digits behind the first word of a line
behind_short : (w : ℕ) (ns : List ℕ) → 0 < w → ((i : ℕ) → i < length ns → get_or ns i 0 < 10 ^ w) → length (numbers_behind ns) ≤ suc w * length ns + 1
unfolding numbers_behind
behind_short w [] p h = omega arith
behind_short w (n ∷ ns) p h =
    omega (
      arith,
      length-append (spaced n) (numbers_behind ns),
      decimal_short w n p (h 0 (omega arith)),
      behind_short w ns p (λ i l. h (suc i) (omega arith)),
    )

module _ (m : Netlist) (c : Countable m) where
  lines_few : line_count m ≤ levels
  unfolding line_count
  lines_few = largest_le (λ k. suc (m.at k).level) m.size levels (λ k l. omega (arith, c.low k l))

  -- all numbers of a sheet have up to five digits
  counts_low : (level i : ℕ) → i < columns → get_or (counts_at m level) i 0 < 10 ^ 5
  counts_low level i l = omega (arith, line_counts m c level i l, count_le (λ k. eqb (table_index (m.at k)) (columns * level + i)) m.size, c.few)

  totals_low : (i : ℕ) → i < columns → get_or (totals m) i 0 < 10 ^ 5
  unfolding gates buffer_count
  totals_low zero l = omega (arith, count_le (λ k. eqb (m.at k).kind input) m.size, c.few)
  totals_low (suc zero) l = omega (arith, count_le (λ k. is_gate (m.at k).kind) m.size, c.few)
  totals_low (suc (suc zero)) l = omega (arith, count_le (λ k. eqb (m.at k).kind buffer) m.size, c.few)
  totals_low (suc (suc (suc zero))) l = omega (arith, count_le (λ k. eqb (m.at k).kind output) m.size, c.few)
  totals_low (suc (suc (suc (suc i)))) l = absurd (omega arith)

  level_line_short : (level : ℕ) → level < levels → length (level_line m level) ≤ line_limit
  level_line_short level l =
      omega (
        arith,
        length-append (decimal level) (numbers_behind (counts_at m level)),
        decimal_short 5 level (omega arith) (omega arith),
        behind_short 5 (counts_at m level) (omega arith) (counts_low level),
      )

  sum_line_short : length (sum_line m) ≤ line_limit
  sum_line_short =
      omega (arith, length-append sum_word (numbers_behind (totals m)), behind_short 5 (totals m) (omega arith) totals_low)

  module _ (table : List ℕ) (e : table ≡ table_of m) where
    table_line_lem : (level : ℕ) → level < levels → table_line table level ≡ level_line m level
    unfolding table_of
    table_line_lem level l =
        ap (λ (t : List ℕ). table_line t level) e
        ∙ ap (line level) (part_joined (counts_at m) columns (λ i. refl) levels level l)

    table_long : length table ≡ table_size
    unfolding table_of
    table_long = ap length e ∙ length_joined (counts_at m) columns (λ i. refl) levels

    module _ (lines : ℕ) (f : lines ≡ line_count m) (text : List ℕ) (room : text_limit ≤ length text) where
      few : lines ≤ levels
      few = omega (arith, lines_few)

      pub lines_fit : LinesFit table lines text
      lines_fit =
          record {
            few = few;
            long = table_long;
            each = λ level l. omega (arith, few, ap length (table_line_lem level (omega (arith, few))), level_line_short level (omega (arith, few)));
            room = omega (arith, few);
          }

      lines_are : joined (table_line table) lines ≡ joined (level_line m) (line_count m)
      lines_are =
          joined_cong (table_line table) (level_line m) lines (λ level l. table_line_lem level (omega (arith, few)))
          ∙ ap (joined (level_line m)) f

      -- the sum line behind them
      module _ (at : ℕ) (new : List ℕ) (g : at ≡ length (joined (table_line table) lines)) (h : new ≡ onto (joined (table_line table) lines) text) where
        short : at ≤ line_limit * lines
        short = omega (arith, joined_short (table_line table) line_limit lines lines_fit.each)

        same : length new ≡ length text
        same = ap length h ∙ length_onto (joined (table_line table) lines) text (omega (arith, short, few, g))

        module _ (sorts : List ℕ) (q : sorts ≡ totals m) where
          sum_is : sum_word ++ numbers_behind sorts ≡ sum_line m
          sum_is = ap (λ (l : List ℕ). sum_word ++ numbers_behind l) q

          fits : at + length (sum_word ++ numbers_behind sorts) ≤ length new
          fits = omega (arith, short, few, same, ap length sum_is, sum_line_short)

          pub sum_room : length (sum_word ++ numbers_behind sorts) ≤ length (take (length new - at) (drop at new))
          sum_room = rest_room new at (length (sum_word ++ numbers_behind sorts)) fits

          module _ (n : ℕ) (p : n ≡ length (sum_word ++ numbers_behind sorts)) where
            pub sheet_end : at + n ≡ length (sheet_of m)
            sheet_end =
                omega (arith, p, g, ap length sum_is, ap length lines_are, length-append (joined (level_line m) (line_count m)) (sum_line m))

          module _ (part : List ℕ) (p : part ≡ onto (sum_word ++ numbers_behind sorts) (take (length new - at) (drop at new))) where
            pub sheet_put : take at new ++ (part ++ drop (length new - at) (drop at new)) ≡ onto (sheet_of m) text
            sheet_put =
                onto_behind (joined (table_line table) lines) (sum_word ++ numbers_behind sorts) text new part at g h p
                ∙ ap₂ (λ (u v : List ℕ). onto (u ++ v) text) lines_are sum_is

-- what is printed, by the verifier's checks
module _ (source : List ℕ) (caps : Capacities) (mapped : List ℕ) where
  module _ (e : Passed ≡ verify_checks source caps mapped) where
    pub passed_countable : Countable (netlist mapped)
    passed_countable = countable source caps mapped ((checks_passed source caps mapped).0 (sym e))

    passed_text : sheet_of (netlist mapped) ≡ sheet_text source caps mapped
    passed_text = rw (← e)

    pub passed_length : (end : ℕ) → end ≡ length (sheet_of (netlist mapped)) → end ≡ length (sheet_text source caps mapped)
    passed_length end f = f ∙ ap length passed_text

    pub passed_onto : (text new : List ℕ) → new ≡ onto (sheet_of (netlist mapped)) text → new ≡ onto (sheet_text source caps mapped) text
    passed_onto text new f = f ∙ ap (λ (l : List ℕ). onto l text) passed_text

  module _ (number place n : ℕ) (e : Refused n place ≡ verify_checks source caps mapped) (q : number ≡ n) where
    refused_text : refusal_line number place ≡ sheet_text source caps mapped
    refused_text = rw (q, ← e)

    pub refused_length : (end : ℕ) → end ≡ length (line number (place ∷ [])) → end ≡ length (sheet_text source caps mapped)
    refused_length end f = f ∙ ap length refused_text

    pub refused_onto : (text new : List ℕ) → new ≡ onto (line number (place ∷ [])) text → new ≡ onto (sheet_text source caps mapped) text
    refused_onto text new f = f ∙ ap (λ (l : List ℕ). onto l text) refused_text

-- the line of a refusal fits
pub refusal_room : (number place : ℕ) (text : List ℕ) → number < 2 ^ 32 → place < 2 ^ 32 → text_limit ≤ length text →
    length (line number (place ∷ [])) ≤ length text
refusal_room number place text a b room =
    omega (
      arith,
      length-append (decimal number) (numbers_behind (place ∷ [])),
      decimal_short 10 number (omega arith) (omega arith),
      behind_short 10 (place ∷ []) (omega arith) low,
    )
  where
    low : (i : ℕ) → i < 1 → get_or (place ∷ []) i 0 < 10 ^ 10
    low zero l = omega arith
    low (suc i) l = absurd (omega arith)
