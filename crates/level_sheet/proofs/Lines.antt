-- Laws of lines as they are put into a text: part by part, number by number, and level by level.
use Prim.Native.Nat.{ℕ, suc, ◌+◌, ◌-◌, ◌*◌, ◌≤◌, ◌<◌}
use native.Mathlib.Numerals.{add-one}
use native.Mathlib.Nat.{add-sub_cancel_left}
use native.Mathlib.Omega.{arith}
use mathlib.Core.Path.{◌≡◌, refl, sym, ap, ap₂, ◌∙◌}
use mathlib.Core.List.{List, [], ◌∷◌, ◌++◌, append_assoc, append-nil}
use lib.ListN.{length, get_or, take, drop, set, length-append, length-drop, drop_of_length-le}
use lib.Seq.{drop-cons, drop-drop, take_all}
use Rattle.facts.specs.Areas.{onto}
use Rattle.facts.specs.Lists.{joined}
use Rattle.facts.proofs.Areas.{Written, take_written, drop_written, written_more, put_start, length_put}
use Rattle.facts.proofs.Lists.{joined_last, joined_short}
use Rattle.level_sheet.specs.Counts.{columns}
use Rattle.level_sheet.specs.Text.{line_end, spaced, numbers_behind, line, line_limit}
use Rattle.level_sheet.specs.PrivateTable.{table_line, LinesFit}

-- the rest of a text from a place on, as code cuts it
abbrev rest_from : List ℕ → ℕ → List ℕ
rest_from text at = take (length text - at) (drop at text)

rest_is : (text : List ℕ) (at : ℕ) → rest_from text at ≡ drop at text
rest_is text at = take_all (length text - at) (drop at text) (simp length-drop (omega arith))

pub rest_room : (text : List ℕ) (at n : ℕ) → at + n ≤ length text → n ≤ length (rest_from text at)
rest_room text at n l = omega (arith, ap length (rest_is text at), length-drop at text)

pub length_onto : (bytes text : List ℕ) → length bytes ≤ length text → length (onto bytes text) ≡ length text
length_onto bytes text l = ap length (sym (put_start text bytes)) ∙ length_put text 0 bytes (omega arith)

-- further bytes right behind, written onto the rest
pub onto_behind : (word tail old text part : List ℕ) (at : ℕ) → at ≡ length word → text ≡ onto word old → part ≡ onto tail (rest_from text at) →
    take at text ++ (part ++ drop (length text - at) (drop at text)) ≡ onto (word ++ tail) old
onto_behind word tail old text part at e f g =
    ap₂ (λ (u v : List ℕ). u ++ (v ++ drop (length text - at) (drop at text))) (take_written word at text old w) (g ∙ ap (onto tail) rest)
    ∙ ap (λ (l : List ℕ). word ++ ((tail ++ drop (length tail) (drop at old)) ++ l)) (drop_of_length-le (drop at text) (simp length-drop (omega arith)))
    ∙ ap (λ (l : List ℕ). word ++ l) (append-nil (tail ++ drop (length tail) (drop at old)) ∙ ap (λ (l : List ℕ). tail ++ l) (drop-drop (length tail) at old))
    ∙ sym (append_assoc word tail (drop (at + length tail) old))
    ∙ ap (λ (k : ℕ). (word ++ tail) ++ drop k old) (omega (arith, e, length-append word tail))
  where
    w : Written word at text old
    w = record { long = sym e; parts = f ∙ ap (λ (k : ℕ). word ++ drop k old) (sym e) }

    rest : rest_from text at ≡ drop at old
    rest = rest_is text at ∙ drop_written word at at text old w (omega arith)

-- of the numbers of a line the first j are put, and the rest of the line is that of the others
pub record Putting (numbers old text : List ℕ) (end j : ℕ) : Type 0 where
  pub done : List ℕ
  pub room : length (numbers_behind numbers) ≤ length old
  pub rest : done ++ numbers_behind (drop j numbers) ≡ numbers_behind numbers
  pub ends : end ≡ length done
  pub so_far : text ≡ onto done old

module _ (numbers old : List ℕ) where
  pub putting_start : length (numbers_behind numbers) ≤ length old → Putting numbers old old 0 0
  putting_start r =
      record { done = []; room = r; rest = refl; ends = refl; so_far = refl }

  module _ (text : List ℕ) (end j : ℕ) (c : Putting numbers old text end j) where
    parts : length c.done + length (numbers_behind (drop j numbers)) ≡ length (numbers_behind numbers)
    parts = sym (length-append c.done (numbers_behind (drop j numbers))) ∙ ap length c.rest

    putting_same : length text ≡ length old
    putting_same = ap length c.so_far ∙ length_onto c.done old (omega (arith, parts, c.room))

    -- one number more
    module _ (h : j < length numbers) where
      next : numbers_behind (drop j numbers) ≡ spaced (get_or numbers j 0) ++ numbers_behind (drop (suc j) numbers)
      unfolding numbers_behind
      next = ap numbers_behind (drop-cons numbers j 0 h)

      fits : end + length (spaced (get_or numbers j 0)) ≤ length text
      fits =
          omega (
            arith,
            parts,
            c.room,
            c.ends,
            putting_same,
            ap length next,
            length-append (spaced (get_or numbers j 0)) (numbers_behind (drop (suc j) numbers)),
          )

      pub number_room : length (spaced (get_or numbers j 0)) ≤ length (rest_from text end)
      number_room = rest_room text end (length (spaced (get_or numbers j 0))) fits

      pub putting_more : (part : List ℕ) (n : ℕ) → n ≡ length (spaced (get_or numbers j 0)) → part ≡ onto (spaced (get_or numbers j 0)) (rest_from text end) →
          Putting numbers old (take end text ++ (part ++ drop (length text - end) (drop end text))) (end + n) (j + 1)
      putting_more part n e f =
          record {
            done = c.done ++ spaced (get_or numbers j 0);
            room = c.room;
            rest =
                append_assoc c.done (spaced (get_or numbers j 0)) (numbers_behind (drop (j + 1) numbers))
                ∙ ap (λ (l : List ℕ). c.done ++ l) (ap (λ (k : ℕ). spaced (get_or numbers j 0) ++ numbers_behind (drop k numbers)) (add-one j) ∙ sym next)
                ∙ c.rest;
            ends = omega (arith, e, c.ends, length-append c.done (spaced (get_or numbers j 0)));
            so_far = onto_behind c.done (spaced (get_or numbers j 0)) old text part end c.ends c.so_far f;
          }

    -- the end of the line
    module _ (h : length numbers ≤ j) where
      whole : c.done ++ (line_end ∷ []) ≡ numbers_behind numbers
      unfolding numbers_behind
      whole = ap (λ (l : List ℕ). c.done ++ numbers_behind l) (sym (drop_of_length-le numbers {i = j} h)) ∙ c.rest

      long : length c.done + 1 ≡ length (numbers_behind numbers)
      long = sym (length-append c.done (line_end ∷ [])) ∙ ap length whole

      pub end_inside : end < length text
      end_inside = omega (arith, long, c.room, c.ends, putting_same)

      pub line_ends : end + 1 ≡ length (numbers_behind numbers)
      line_ends = omega (arith, long, c.ends)

      pub line_put : set text end line_end ≡ onto (numbers_behind numbers) old
      line_put =
          (written_more c.done end line_end text old (record { long = sym c.ends; parts = c.so_far ∙ ap (λ (k : ℕ). c.done ++ drop k old) (sym c.ends) })
          (omega (arith, long, c.room, c.ends))).parts
          ∙ ap₂ (λ (l : List ℕ) (k : ℕ). l ++ drop k old) whole (sym (add-one end) ∙ line_ends)

-- the lines of the levels below `level` are put
pub record PuttingLevels (table : List ℕ) (lines : ℕ) (old text : List ℕ) (end level : ℕ) : Type 0 where
  pub fit : LinesFit table lines old
  pub ends : end ≡ length (joined (table_line table) level)
  pub so_far : text ≡ onto (joined (table_line table) level) old

module _ (table : List ℕ) (lines : ℕ) (old : List ℕ) where
  pub levels_start : LinesFit table lines old → PuttingLevels table lines old old 0 0
  unfolding joined
  levels_start f = record { fit = f; ends = refl; so_far = refl }

  module _ (text : List ℕ) (end level : ℕ) (c : PuttingLevels table lines old text end level) (within : level ≤ lines) where
    short : length (joined (table_line table) level) ≤ line_limit * level
    short = joined_short (table_line table) line_limit level (λ i l. c.fit.each i (omega arith))

    levels_same : length text ≡ length old
    levels_same = ap length c.so_far ∙ length_onto (joined (table_line table) level) old (omega (arith, short, c.fit.room))

    module _ (h : level < lines) where
      -- a row of the table as code cuts it
      abbrev cut : List ℕ
      cut = take (columns * level + columns - columns * level) (drop (columns * level) table)

      row_is : line level cut ≡ table_line table level
      row_is = ap (λ (n : ℕ). line level (take n (drop (columns * level) table))) (add-sub_cancel_left (columns * level) columns)

      line_fits : end + length (line level cut) ≤ length text
      line_fits = omega (arith, ap length row_is, c.fit.each level h, short, c.fit.room, c.ends, levels_same)

      pub level_room : length (line level cut) ≤ length (rest_from text end)
      level_room = rest_room text end (length (line level cut)) line_fits

      pub levels_more : (part : List ℕ) (n : ℕ) → n ≡ length (line level cut) → part ≡ onto (line level cut) (rest_from text end) →
          PuttingLevels table lines old (take end text ++ (part ++ drop (length text - end) (drop end text))) (end + n) (level + 1)
      levels_more part n e f =
          record {
            fit = c.fit;
            ends = omega (arith, e, ap length row_is, c.ends, ap length last, length-append (joined (table_line table) level) (table_line table level));
            so_far =
                onto_behind (joined (table_line table) level) (table_line table level) old text part end c.ends c.so_far
                (f ∙ ap (λ (l : List ℕ). onto l (rest_from text end)) row_is)
                ∙ ap (λ (l : List ℕ). onto l old) (sym last);
          }
        where
          last : joined (table_line table) (level + 1) ≡ joined (table_line table) level ++ table_line table level
          last = joined_last (table_line table) level

    module _ (h : lines ≤ level) where
      all : level ≡ lines
      all = omega arith

      pub levels_end : end ≡ length (joined (table_line table) lines)
      levels_end = c.ends ∙ ap (λ (k : ℕ). length (joined (table_line table) k)) all

      pub levels_put : text ≡ onto (joined (table_line table) lines) old
      levels_put = c.so_far ∙ ap (λ (k : ℕ). onto (joined (table_line table) k) old) all
