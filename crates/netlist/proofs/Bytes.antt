-- Laws of records as bytes: what is read of a netlist's bytes is the netlist again, bytes are those of the netlist that they hold, and records
-- written side by side are written together.
use Prim.Native.Nat.{ℕ, zero, suc, ◌+◌, ◌*◌, ◌≤◌, ◌<◌, ◌/◌, ◌%◌}
use mathlib.Core.Path.{◌≡◌, refl, sym, ◌∙◌, ap, ap₂, subst, fun_ext}
use mathlib.Core.List.{List, [], ◌∷◌, ◌++◌, append_assoc, append-nil}
use native.Mathlib.Omega.{arith}
use native.Mathlib.Nat.{add-zero, add-suc, add_assoc, zero-add}
use native.Mathlib.Numerals.{add-one}
use native.Mathlib.Decide.{dec_lt}
use borrow.Rule.Slice.PartMut.{put_mid}
use lib.ListN.{length, get_or, drop, set}
use lib.Seq.{sets, take_all, get_or-append-add, ext_get_or}
use Rattle.facts.specs.Bytes.{AreBytes, two_bytes}
use Rattle.facts.specs.Lists.{tabulate, joined}
use Rattle.facts.specs.Areas.{put, onto}
use Rattle.facts.proofs.Lists.{length_tabulate, get_d_tabulate, length_joined, part_joined, get_or_joined, joined_cong, parts_joined}
use Rattle.facts.proofs.Bytes.{two_back, two_from, two_below}
use Rattle.facts.proofs.Areas.{put_none, length_put, put_behind, put_before, stored_whole}
use Rattle.netlist.specs.declared.Record.{Record}
use Rattle.netlist.specs.Kinds.{width, slots, unused}
use Rattle.netlist.specs.Records.{Netlist, netlist, field, decode, slot, blank, record_count, record_bytes, record_at}
use Rattle.netlist.specs.Bytes.{encode, encoded, recs, bytes_of}
use Rattle.netlist.specs.PrivateBytes.{with_records, Fits}
use Rattle.netlist.proofs.Records.{record_byte, record_inside, record_past, part_length}

pub length_encode : (r : Record) → length (encode r) ≡ width
unfolding encode joined
length_encode r = refl

pub length_encoded : (f : ℕ → Record) (n : ℕ) → length (encoded f n) ≡ width * n
unfolding encoded
length_encoded f n = length_joined (λ k. encode (f k)) width (λ k. length_encode (f k)) n

pub length_recs : (m : Netlist) (i c : ℕ) → length (recs m i c) ≡ width * c
length_recs m i c = length_encoded (λ k. m.at (i + k)) c

-- the bytes of slot j
slot_byte : (r : Record) (j c : ℕ) → j < slots → c < 2 → get_or (encode r) (4 + (2 * j + c)) 0 ≡ get_or (two_bytes (slot r j)) c 0
unfolding encode
slot_byte r j c l h =
    get_or-append-add (r.kind ∷ r.inversion ∷ two_bytes r.level) (joined (λ j. two_bytes (slot r j)) slots) (2 * j + c) 0
    ∙ get_or_joined (λ j. two_bytes (slot r j)) 2 (λ i. refl) slots j c 0 l h

-- slot j from its bytes
slot_back : (r : Record) (j : ℕ) → Fits r → j < slots → field (encode r) (4 + 2 * j) ≡ slot r j
slot_back r j h l =
    ap₂ (λ (a b : ℕ). a + 256 * b)
    (ap (λ (y : ℕ). get_or (encode r) (4 + y) 0) (sym (add-zero (2 * j))) ∙ slot_byte r j 0 l (omega arith))
    (ap (λ (y : ℕ). get_or (encode r) y 0) (add_assoc 4 (2 * j) 1) ∙ slot_byte r j 1 l (omega arith))
    ∙ two_back (slot r j) (h.slots j)

-- what holds of kind, inversion, both bytes of the level and those of every slot holds of each byte of a record
each_byte : (P : ℕ → Type 0) → P 0 → P 1 → P 2 → P 3 → ((j c : ℕ) → j < slots → c < 2 → P (4 + (2 * j + c))) → (b : ℕ) → b < width → P b
each_byte P kind inversion low high slot zero l = kind
each_byte P kind inversion low high slot (suc zero) l = inversion
each_byte P kind inversion low high slot (suc (suc zero)) l = low
each_byte P kind inversion low high slot (suc (suc (suc zero))) l = high
each_byte P kind inversion low high slot (suc (suc (suc (suc b)))) l =
    let e : 4 + (2 * (b / 2) + b % 2) ≡ suc (suc (suc (suc b))) = omega arith in
    subst P e (slot (b / 2) (b % 2) (omega arith) (omega arith))

-- the bytes of a record are bytes, if kind and inversion are
encode_below : (r : Record) → r.kind < 256 → r.inversion < 256 → (b : ℕ) → b < width → get_or (encode r) b 0 < 256
unfolding encode
encode_below r kind inversion =
    each_byte (λ b. get_or (encode r) b 0 < 256) kind inversion (two_below r.level 0 (omega arith)) (two_below r.level 1 (omega arith))
    (λ j c l h. rw (slot_byte r j c l h) (two_below (slot r j) c h))

-- ten bytes are those of the record that they hold
encode_decode : (part : List ℕ) → length part ≡ width → ((b : ℕ) → b < width → get_or part b 0 < 256) → encode (decode part) ≡ part
unfolding encode
encode_decode part long below =
    ext_get_or 0 (encode (decode part)) part (length_encode (decode part) ∙ sym long)
    (λ b l.
    each_byte (λ b. get_or (encode (decode part)) b 0 ≡ get_or part b 0) refl refl (field_byte 2 (omega arith) 0) (field_byte 2 (omega arith) 1)
    (λ j c l h.
    slot_byte (decode part) j c l h
    ∙ ap (λ (v : ℕ). get_or (two_bytes v) c 0) (get_d_tabulate (λ j. field part (4 + 2 * j)) slots j unused l)
    ∙ field_byte (4 + 2 * j) (omega arith) c
    ∙ pair c (4 + 2 * j) h
    ∙ ap (λ (i : ℕ). get_or part i 0) (add_assoc 4 (2 * j) c))
    b (omega (arith, length_encode (decode part))))
  where
    field_byte : (at : ℕ) → at + 1 < width → (c : ℕ) → get_or (two_bytes (field part at)) c 0 ≡ get_or (get_or part at 0 ∷ get_or part (at + 1) 0 ∷ []) c 0
    field_byte at l c = ap (λ (l : List ℕ). get_or l c 0) (two_from (get_or part at 0) (get_or part (at + 1) 0) (below at (omega arith)) (below (at + 1) l))

    pair : (c at : ℕ) → c < 2 → get_or (get_or part at 0 ∷ get_or part (at + 1) 0 ∷ []) c 0 ≡ get_or part (at + c) 0
    pair zero at l = ap (λ (i : ℕ). get_or part i 0) (sym (add-zero at))
    pair (suc zero) at l = refl
    pair (suc (suc c)) at l = absurd (omega arith)

pub decode_encode : (r : Record) → Fits r → decode (encode r) ≡ r
unfolding encode
decode_encode r h =
    λ i. record { kind = r.kind; inversion = r.inversion; level = two_back r.level h.level i; slots = back i }
  where
    f : ℕ → ℕ
    f j = field (encode r) (4 + 2 * j)

    back : tabulate f slots ≡ r.slots
    back =
        ext_get_or unused (tabulate f slots) r.slots (length_tabulate f slots ∙ sym h.all)
        (λ j l. get_d_tabulate f slots j unused (omega arith) ∙ slot_back r j h (omega arith))

-- what is read of a netlist's bytes is the netlist
module _ (m : Netlist) (fits : (i : ℕ) → i < m.size → Fits (m.at i)) (end : (i : ℕ) → m.size ≤ i → m.at i ≡ blank) where
  count_bytes_lem : record_count (bytes_of m) ≡ m.size
  count_bytes_lem = omega (arith, length_recs m 0 m.size)

  record_bytes_lem : (i : ℕ) → record_at (bytes_of m) i ≡ m.at i
  unfolding encoded
  record_bytes_lem i =
      elim (dec_lt i m.size) [
        | yes l ↦
            record_inside (bytes_of m) i (omega (arith, count_bytes_lem))
            ∙ ap decode
            (part_joined (λ k. encode (m.at (0 + k))) width (λ k. length_encode (m.at (0 + k))) m.size i l
            ∙ ap (λ (k : ℕ). encode (m.at k)) (zero-add i))
            ∙ decode_encode (m.at i) (fits i l)
        | no g ↦ record_past (bytes_of m) i (omega (arith, count_bytes_lem)) ∙ sym (end i (omega arith))
      ]

  pub netlist_bytes : netlist (bytes_of m) ≡ m
  netlist_bytes = λ i. record { size = count_bytes_lem i; at = fun_ext record_bytes_lem i }

-- whole records whose bytes are bytes are the bytes of their netlist
pub bytes_back : (bytes : List ℕ) → AreBytes bytes → length bytes % width ≡ 0 → bytes_of (netlist bytes) ≡ bytes
unfolding encoded
bytes_back bytes all whole =
    joined_cong (λ k. encode (record_at bytes (0 + k))) (record_bytes bytes) (record_count bytes)
    (λ k l.
    ap encode (ap (record_at bytes) (zero-add k) ∙ record_inside bytes k l)
    ∙ encode_decode (record_bytes bytes k) (part_length bytes k l (record_bytes bytes k) refl)
    (λ b h. rw (record_byte bytes k b h) (all.each (width * k + b) (omega arith))))
    ∙ parts_joined width (record_count bytes) bytes
    ∙ take_all (width * record_count bytes) bytes (omega arith)

-- encoded records are bytes, if their kinds and inversions are
pub encoded_bytes : (f : ℕ → Record) (n : ℕ) → ((k : ℕ) → k < n → (f k).kind < 256) → ((k : ℕ) → k < n → (f k).inversion < 256) → AreBytes (encoded f n)
unfolding encoded
encoded_bytes f n kinds inversions =
    record {
      each = λ i l.
          let k : i / width < n = omega (arith, length_encoded f n) in
          let b : i % width < width = omega arith in
          let e : width * (i / width) + i % width ≡ i = omega arith in
          subst (λ (x : ℕ). get_or (joined (λ k. encode (f k)) n) x 0 < 256) e
          (rw (get_or_joined (λ k. encode (f k)) width (λ k. length_encode (f k)) n (i / width) (i % width) 0 k b)
          (encode_below (f (i / width)) (kinds (i / width) k) (inversions (i / width) k) (i % width) b));
    }

-- equal records below n, encoded
pub encoded_cong : (f g : ℕ → Record) (n : ℕ) → ((i : ℕ) → i < n → f i ≡ g i) → encoded f n ≡ encoded g n
unfolding encoded
encoded_cong f g n h = joined_cong (λ k. encode (f k)) (λ k. encode (g k)) n (λ i l. ap encode (h i l))

-- records one after the other
pub recs_append : (m : Netlist) (i c k : ℕ) → recs m i (c + k) ≡ recs m i c ++ recs m (i + c) k
unfolding encoded joined
recs_append m i c zero = rw (add-zero c) (sym (append-nil (recs m i c)))
recs_append m i c (suc k) =
    ap (recs m i) (add-suc c k)
    ∙ ap₂ ◌++◌ (recs_append m i c k) (ap (λ (x : ℕ). encode (m.at x)) (sym (add_assoc i c k)))
    ∙ append_assoc (recs m i c) (recs m (i + c) k) (encode (m.at (i + c + k)))

pub records_none : (m : Netlist) (i : ℕ) (area : List ℕ) → with_records m i 0 area ≡ area
unfolding encoded joined
records_none m i area = put_none area (width * i)

module _ (m : Netlist) (i c : ℕ) (area : List ℕ) where
  pub records_length : width * (i + c) ≤ length area → length (with_records m i c area) ≡ length area
  records_length l = length_put area (width * i) (recs m i c) (omega (arith, length_recs m i c))

  pub records_more : (k : ℕ) → width * (i + c) ≤ length area → with_records m (i + c) k (with_records m i c area) ≡ with_records m i (c + k) area
  records_more k l =
      ap (λ (x : ℕ). put (with_records m i c area) x (recs m (i + c) k)) place
      ∙ put_behind area (width * i) (recs m i c) (recs m (i + c) k) (omega (arith, length_recs m i c))
      ∙ ap (put area (width * i)) (sym (recs_append m i c k))
    where
      place : width * (i + c) ≡ width * i + length (recs m i c)
      place = omega (arith, length_recs m i c)

-- all records, the last ones first
pub records_all : (m : Netlist) (i c : ℕ) (area : List ℕ) → width * i ≤ length area → i + c ≡ m.size →
    with_records m 0 i (with_records m i c area) ≡ onto (bytes_of m) area
records_all m i c area l e =
    put_before area 0 (recs m 0 i) (width * i) (recs m i c) (omega (arith, length_recs m 0 i)) l
    ∙ ap (put area 0) (ap (λ (k : ℕ). recs m 0 i ++ recs m k c) (sym (zero-add i)) ∙ sym (recs_append m 0 i c) ∙ ap (recs m 0) e)
    ∙ ap (λ (k : ℕ). bytes_of m ++ drop k area) (zero-add (length (bytes_of m)))

-- records f 0 to f (j - 1) are written from record at on
pub record RecordsSoFar (area₀ : List ℕ) (at : ℕ) (f : ℕ → Record) (n : ℕ) (area : List ℕ) (j : ℕ) : Type 0 where
  pub within : j ≤ n
  pub long : length area ≡ length area₀
  pub bytes : area ≡ put area₀ (width * at) (encoded f j)

module _ (area₀ : List ℕ) (at : ℕ) (f : ℕ → Record) (n : ℕ) where
  pub written_start : RecordsSoFar area₀ at f n area₀ 0
  unfolding encoded joined
  written_start = let bytes = sym (put_none area₀ (width * at)) in search arith

  module _ (area : List ℕ) (j : ℕ) (h : RecordsSoFar area₀ at f n area j) where
    pub written_end : n ≤ j → area ≡ put area₀ (width * at) (encoded f n)
    written_end l =
        let e : n ≡ j = omega (arith, h.within) in rw e h.bytes

    pub written_more : (r : Record) (after : List ℕ) → width * (at + n) ≤ length area₀ → j < n → r ≡ f j →
        after ≡ put area (width * (at + j)) (encode r) → RecordsSoFar area₀ at f n after (j + 1)
    unfolding encoded joined
    written_more r after room l e g =
        record {
          within = omega arith;
          long = rw g (length_put area (width * (at + j)) (encode r) (omega (arith, h.long, length_encode r)) ∙ h.long);
          bytes =
              rw (g, h.bytes, place, add-one j, ← e) (put_behind area₀ (width * at) (encoded f j) (encode r) (omega (arith, length_encoded f j)));
        }
      where
        place : width * (at + j) ≡ width * at + length (encoded f j)
        place = omega (arith, length_encoded f j)

-- the ten bytes of a record, stored one by one
pub stored : (part : List ℕ) (r : Record) (x y z l₁ l₂ x₁ x₂ y₁ y₂ z₁ z₂ : ℕ) → length part ≡ width →
    x ≡ slot r 0 → y ≡ slot r 1 → z ≡ slot r 2 →
    l₁ ≡ r.level % 256 → l₂ ≡ r.level / 256 % 256 → x₁ ≡ x % 256 → x₂ ≡ x / 256 % 256 →
    y₁ ≡ y % 256 → y₂ ≡ y / 256 % 256 → z₁ ≡ z % 256 → z₂ ≡ z / 256 % 256 →
    sets part 0 (r.kind ∷ r.inversion ∷ l₁ ∷ l₂ ∷ x₁ ∷ x₂ ∷ y₁ ∷ y₂ ∷ z₁ ∷ z₂ ∷ []) ≡ encode r
unfolding encode joined
stored part r x y z l₁ l₂ x₁ x₂ y₁ y₂ z₁ z₂ p a b c d e f g h i j k =
    let bytes : List ℕ = r.kind ∷ r.inversion ∷ l₁ ∷ l₂ ∷ x₁ ∷ x₂ ∷ y₁ ∷ y₂ ∷ z₁ ∷ z₂ ∷ [] in
    let same : bytes ≡ encode r = cc in
    stored_whole part bytes width p refl ∙ same

-- a list by its entries
entries : (xs : List ℕ) (n : ℕ) → length xs ≡ n → xs ≡ tabulate (λ i. get_or xs i 0) n
entries xs n e =
    let long : length (tabulate (λ i. get_or xs i 0) n) ≡ n = length_tabulate (λ i. get_or xs i 0) n in
    ext_get_or 0 xs (tabulate (λ i. get_or xs i 0) n) (e ∙ sym long) (λ i l. sym (get_d_tabulate (λ i. get_or xs i 0) n i 0 (omega (arith, e))))

-- kind and inversion and the fields of two bytes, stored one after the other
module _ (r : Record) (a b c d : List ℕ) where
  abbrev stores : List ℕ → List ℕ
  stores part = put_mid 8 2 (put_mid 6 2 (put_mid 4 2 (put_mid 2 2 (set (set part 0 r.kind) 1 r.inversion) a) b) c) d

  pub stored_fields : (part : List ℕ) → length part ≡ width → a ≡ two_bytes r.level → b ≡ two_bytes (slot r 0) → c ≡ two_bytes (slot r 1) → d ≡ two_bytes (slot r 2) →
      stores part ≡ encode r
  unfolding encode joined
  stored_fields part long e f g h = ap stores (entries part width long) ∙ rw (e, f, g, h) refl
