-- How long a text can be: what the list program prints always has room in 700,000 bytes. Assumes nothing.
use mathlib.Core.Path.{◌≡◌, refl, sym, ap, ap₂, ◌∙◌, subst}
use mathlib.Core.Bool.{Bool, true, false, not, ◌&&◌, cond}
use mathlib.Core.List.{List, [], ◌∷◌, ◌++◌, map}
use Prim.Native.Nat.{ℕ, zero, suc, ◌+◌, ◌-◌, ◌*◌, ◌/◌, ◌%◌, ◌≤◌, ◌<◌}
use native.Mathlib.Nat.{zero-add}
use native.Mathlib.Omega.{arith}
use lib.Dec.{eqb, ltb}
use lib.ListN.{length, take, drop, length-append}
use lib.Seq.{take_all, take-append_seam}
use borrow.Author.Tests.{ltb-false, lt-ltb, eqb-true}
use Rattle.vocabulary.specs.Bytes.{Bytes, over}
use Rattle.vocabulary.proofs.ByteLaws.{over_front}
use Rattle.vocabulary.specs.Intervals.{picked, blocks, total}
use Rattle.vocabulary.proofs.IntervalLaws.{picked_all, picked_length_le, blocks_length, total_mono, total_bound}
use Rattle.vocabulary.specs.Lists.{All, joined}
use Rattle.vocabulary.proofs.ListLaws.{and_true}
use Rattle.vocabulary.specs.Tests.{Test, first_of}
use Rattle.vocabulary.proofs.TestLaws.{first_small, small_append}
use Rattle.layout.specs.Limits.{most_elements, most_held, most_parts}
use Rattle.mesh.specs.Mesh.{top, counted, below, first_cell, cell_count}
use Rattle.mesh.proofs.WalkLaws.{below_grows}
use Rattle.mesh.specs.Accepted.{Accepted}
use Rattle.split.specs.Split.{Split, split_of, held, holds, owns, inside as inside_of, imports, exports, interior, halo, range, touches, holds_lower, another}
use Rattle.split.specs.Split.{is_private, is_exposed, is_shared, is_copied}
use Rattle.split.proofs.SplitLaws.{split_parted, split_small, sizes_fine, sizes_small, map_facts, own_count, order_length, local_held, split_reach, split_own, split_owner}
use Rattle.split.specs.Lists.{bad8, bad12, split_tests, size_tests, split_number, sizes_number, split_input}
use Rattle.split.proofs.PassedLaws.{tests_are, passed_facts}
use Rattle.list_text.specs.Listing.{ascii, digits, decimal, spaced, line, line_unless_empty, dimension_text, part_text, split_text, mesh_piece, parts_piece}
use Rattle.list_text.specs.Listing.{owners_piece, stencil_piece, listing_number, list_text}
use Rattle.list_text.specs.Printing.{fitting, Printed}
use Rattle.list_input.specs.Pieces.{Listed, pieces_number, pieces_text}
use Rattle.list_text.proofs.PrintLaws.{room}

-- ---- numbers of at most four digits

one_digit : (v : ℕ) → v < 10 → (n : ℕ) → length (digits n v) ≤ 1
unfolding digits
one_digit v h zero = omega arith
one_digit v h (suc n) = rw (lt-ltb v 10 h) (omega arith)

digit_more : (v w : ℕ) → ((k : ℕ) → length (digits k (v / 10)) ≤ w) → (n : ℕ) → length (digits n v) ≤ w + 1
unfolding digits
digit_more v w f zero = omega arith
digit_more v w f (suc n) = go (ltb v 10)
  where
    go : (c : Bool) → length (cond c ((48 + v) ∷ []) (digits n (v / 10) ++ ((48 + v % 10) ∷ []))) ≤ w + 1
    go true = omega arith
    go false = omega (arith, length-append (digits n (v / 10)) ((48 + v % 10) ∷ []), f n)

four_digits : (v : ℕ) → v < 10000 → (n : ℕ) → length (digits n v) ≤ 4
four_digits v h = digit_more v 3 (digit_more (v / 10) 2 (digit_more (v / 10 / 10) 1 (one_digit (v / 10 / 10 / 10) (omega arith))))

spaced_length : (v : ℕ) → v < 10000 → length (spaced v) ≤ 5
unfolding spaced decimal
spaced_length v h = omega (arith, four_digits v h (suc v))

joined_length : (vs : List ℕ) → All (λ v. v < 10000) vs → length (joined (map spaced vs)) ≤ 5 * length vs
unfolding joined
joined_length [] a = omega arith
joined_length (v ∷ vs) a = omega (arith, length-append (spaced v) (joined (map spaced vs)), spaced_length v a.0, joined_length vs a.1)

line_length : (label : Bytes) (vs : List ℕ) → All (λ v. v < 10000) vs → length (line label vs) ≤ length label + 1 + 5 * length vs
unfolding line
line_length label vs a =
    omega (arith, length-append label (joined (map spaced vs) ++ (10 ∷ [])), length-append (joined (map spaced vs)) (10 ∷ []), joined_length vs a)

unless_length : (label : Bytes) (vs : List ℕ) → All (λ v. v < 10000) vs → length (line_unless_empty label vs) ≤ length label + 1 + 5 * length vs
unfolding line_unless_empty
unless_length label [] a = omega arith
unless_length label (v ∷ vs) a = line_length label (v ∷ vs) a

-- ---- counts

picked_fewer : (a : ℕ) (p q : ℕ → Bool) → ((x : ℕ) → p x ≡ true → q x ≡ true) → (n : ℕ) → length (picked a n p) ≤ length (picked a n q)
unfolding picked
picked_fewer a p q f zero = omega arith
picked_fewer a p q f (suc n) =
    omega (
      arith,
      length-append (picked a n p) (cond (p (a + n)) ((a + n) ∷ []) []),
      length-append (picked a n q) (cond (q (a + n)) ((a + n) ∷ []) []),
      picked_fewer a p q f n,
      go (p (a + n))
          (q (a + n)) (f (a + n)),
    )
  where
    go : (b c : Bool) → (b ≡ true → c ≡ true) → length (cond b ((a + n) ∷ []) []) ≤ length (cond c ((a + n) ∷ []) [])
    go true true g = omega arith
    go true false g = subst (λ (d : Bool). 1 ≤ length (cond d ((a + n) ∷ []) [])) (sym (g refl)) (omega arith)
    go false c g = omega arith

abbrev ones : Bool → ℕ
ones b = cond b 1 0

-- four classes of which a number has one at most
four_few : (a : ℕ) (p q r s : ℕ → Bool) → ((x : ℕ) → ones (p x) + ones (q x) + ones (r x) + ones (s x) ≤ 1) → (n : ℕ)
    → length (picked a n p) + length (picked a n q) + length (picked a n r) + length (picked a n s) ≤ n
unfolding picked
four_few a p q r s f zero = omega arith
four_few a p q r s f (suc n) = omega (arith, four_few a p q r s f n, more p, more q, more r, more s, f (a + n))
  where
    more : (t : ℕ → Bool) → length (picked a (suc n) t) ≡ length (picked a n t) + ones (t (a + n))
    more t = unfold picked in length-append (picked a n t) (cond (t (a + n)) ((a + n) ∷ []) []) ∙ ap (λ l. length (picked a n t) + l) (go (t (a + n)))
      where
        go : (b : Bool) → length (cond b ((a + n) ∷ []) []) ≡ ones b
        go true = refl
        go false = refl

total_lines : (a c : ℕ) (g : ℕ → ℕ) (n : ℕ) → total a n (λ x. c + 5 * g x) ≡ c * n + 5 * total a n g
unfolding total
total_lines a c g zero = omega arith
total_lines a c g (suc n) = omega (arith, total_lines a c g n)

counted_below : (m : Bytes) (k : ℕ) → total 0 k (counted m) ≡ below m k
unfolding total below
counted_below m zero = refl
counted_below m (suc k) = ap₂ ◌+◌ (counted_below m k) (ap (counted m) (zero-add k))

four : (a b c d : Bytes) → length (a ++ (b ++ (c ++ d))) ≡ length a + length b + length c + length d
four a b c d = omega (arith, length-append a (b ++ (c ++ d)), length-append b (c ++ d), length-append c d)

six : (a b c d e f : Bytes) → length (a ++ (b ++ (c ++ (d ++ (e ++ f))))) ≡ length a + length b + length c + length d + length e + length f
six a b c d e f =
    omega (arith, length-append a (b ++ (c ++ (d ++ (e ++ f)))), length-append b (c ++ (d ++ (e ++ f))), length-append c (d ++ (e ++ f)), length-append d (e ++ f), length-append e f)

-- ---- a split

module _ (m : Bytes) (parts : ℕ) (owners st : Bytes) (A : Accepted m) (right : bad8 m parts owners [] ≡ false) (sized : bad12 (split_of m parts owners st) ≡ false) where
  abbrev S : Split
  S = split_of m parts owners st

  few : parts ≤ most_parts
  few = (map_facts m parts owners [] right).few

  held_few : total 1 parts (λ i. length (held S i)) ≤ most_held
  held_few = ltb-false most_held (total 1 parts (λ i. length (held S i))) (unfold bad12 split_of in sized)

  cells_small : (p : ℕ → Bool) → All (λ v. v < 10000) (picked S.first S.cells p)
  unfolding split_of
  cells_small p = picked_all (first_cell m) p (λ v. v < 10000) (cell_count m) (λ i h e. omega (arith, A.cells_in, A.sizes.n_high))

  -- the cells of a part
  own_few : (i : ℕ) → length (interior S i) + length (halo S i) + total 1 parts (λ j. length (imports S i j)) ≤ most_elements
  own_few i =
      omega (
        arith,
        length-append (interior S i) (halo S i),
        own_count S i,
        order_length S i,
        local_held S (split_reach m parts owners st) (split_owner m parts owners st (map_facts m parts owners [] right).owner_in) (split_own m parts owners st) i,
        few_held,
        same,
      )
    where
      same : total 1 parts (λ j. length (imports S i j)) ≡ total 1 S.parts (λ j. length (imports S i j))
      same = unfold split_of in refl

      few_held : length (held S i) ≤ most_elements
      few_held = unfold held split_of in omega (arith, picked_length_le (first_cell m) (holds S i) (cell_count m), A.cells_in, A.sizes.n_high)

  imports_small : (i j : ℕ) → All (λ v. v < 10000) (imports S i j)
  unfolding imports
  imports_small i j = cells_small (λ c. not (eqb i j) && owns S j c && holds S i c)

  exports_few : (i : ℕ) → total 1 parts (λ j. length (exports S i j)) ≤ most_held
  unfolding exports imports held
  exports_few i = omega (arith, total_mono 1 (λ j. length (exports S i j)) (λ j. length (held S j)) parts (λ x h. fewer (1 + x)), held_few)
    where
      fewer : (j : ℕ) → length (exports S i j) ≤ length (held S j)
      fewer j = unfold exports imports held in
          picked_fewer S.first (λ c. not (eqb j i) && owns S i c && holds S j c) (holds S j)
          (λ x e. (and_true (not (eqb j i) && owns S i x) (holds S j x) e).1) S.cells

  passing_length : (label : Bytes) (g : ℕ → List ℕ) → length label ≤ 6 → ((j : ℕ) → All (λ v. v < 10000) (g j))
      → length (blocks 1 S.parts (λ j. line_unless_empty (label ++ spaced j) (g j))) ≤ 192 + 5 * total 1 parts (λ j. length (g j))
  unfolding split_of
  passing_length label g h a =
      omega (
        arith,
        blocks_length 1 (λ j. line_unless_empty (label ++ spaced j) (g j)) parts,
        total_mono 1 (λ j. length (line_unless_empty (label ++ spaced j) (g j))) (λ j. 12 + 5 * length (g j)) parts
            (λ x l. omega (arith, unless_length (label ++ spaced (1 + x)) (g (1 + x)) (a (1 + x)), length-append label (spaced (1 + x)), spaced_length (1 + x) (omega (arith, few)))),
        total_lines 1 12 (λ j. length (g j)) parts,
        few,
      )

  -- ---- the ranges of a dimension

  module _ (i k : ℕ) (h : k < top m) where
    abbrev n : ℕ
    n = counted m k

    inside : below m k + counted m k ≤ most_elements
    inside =
        let q : k + 1 ≡ suc k = omega arith in
        let more : below m (k + 1) ≡ below m k + counted m k = ap (below m) q ∙ (unfold below in refl) in
        omega (arith, more, below_grows m (k + 1) 4 (omega (arith, A.sizes.d_high)), A.sizes.n_high)

    range_picked : (p : ℕ → Bool) → range m k p ≡ picked (below m k + 1) (counted m k) p
    unfolding range
    range_picked p = ap (λ (c : Bool). cond c (picked (below m k + 1) (counted m k) p) []) (lt-ltb k (top m) h)

    range_small : (p : ℕ → Bool) → All (λ v. v < 10000) (range m k p)
    range_small p =
        subst (All (λ v. v < 10000)) (sym (range_picked p)) (picked_all (below m k + 1) p (λ v. v < 10000) (counted m k) (λ x l e. omega (arith, inside)))

    one_class : (e : ℕ) → ones (is_private S i e) + ones (is_exposed S i e) + ones (is_shared S i e) + ones (is_copied S i e) ≤ 1
    unfolding is_private is_exposed is_shared is_copied
    one_class e = go (touches S e i) (another S i (touches S e)) (another S i (λ j. holds_lower S j e)) (holds_lower S i e)
      where
        go : (t a o l : Bool) → ones (t && not a && not o) + ones (t && not a && o) + ones (t && a) + ones (l && not t) ≤ 1
        go true true true true = omega arith
        go true true true false = omega arith
        go true true false true = omega arith
        go true true false false = omega arith
        go true false true true = omega arith
        go true false true false = omega arith
        go true false false true = omega arith
        go true false false false = omega arith
        go false a o true = omega arith
        go false a o false = omega arith

    ranges_few : length (range m k (is_private S i)) + length (range m k (is_exposed S i)) + length (range m k (is_shared S i)) + length (range m k (is_copied S i)) ≤ counted m k
    ranges_few =
        rw (range_picked (is_private S i), range_picked (is_exposed S i), range_picked (is_shared S i), range_picked (is_copied S i))
        (four_few (below m k + 1) (is_private S i) (is_exposed S i) (is_shared S i) (is_copied S i) one_class (counted m k))

    range_length : (name : Bytes) → length name ≤ 8 → (p : ℕ → Bool) → length (line (ascii "dim" ++ (spaced k ++ name)) (range m k p)) ≤ 17 + 5 * length (range m k p)
    range_length name l p =
        omega (
          arith,
          line_length (ascii "dim" ++ (spaced k ++ name)) (range m k p) (range_small p),
          length-append (ascii "dim") (spaced k ++ name),
          length-append (spaced k) name,
          spaced_length k (omega (arith, A.sizes.d_high)),
        )

    dimension_length : length (dimension_text m S i k) ≤ 68 + 5 * counted m k
    unfolding dimension_text
    dimension_length =
        let p = line (ascii "dim" ++ (spaced k ++ ascii " private")) (range m k (is_private S i)) in
        let e = line (ascii "dim" ++ (spaced k ++ ascii " exposed")) (range m k (is_exposed S i)) in
        let s = line (ascii "dim" ++ (spaced k ++ ascii " shared")) (range m k (is_shared S i)) in
        let c = line (ascii "dim" ++ (spaced k ++ ascii " copied")) (range m k (is_copied S i)) in
        omega (
          arith,
          four p e s c,
          ranges_few,
          range_length (ascii " private") (omega arith) (is_private S i),
          range_length (ascii " exposed") (omega arith) (is_exposed S i),
          range_length (ascii " shared") (omega arith) (is_shared S i),
          range_length (ascii " copied") (omega arith) (is_copied S i),
        )

  dimensions_length : (i : ℕ) → length (blocks 0 (top m) (dimension_text m S i)) ≤ 10204
  dimensions_length i =
      omega (
        arith,
        blocks_length 0 (dimension_text m S i) (top m),
        total_mono 0 (λ k. length (dimension_text m S i k)) (λ k. 68 + 5 * counted m k) (top m) (λ x l. dimension_length i (0 + x) (omega arith)),
        total_lines 0 68 (counted m) (top m),
        counted_below m (top m),
        below_grows m (top m) 4 (omega (arith, A.sizes.d_high)),
        A.sizes.n_high,
        A.sizes.d_high,
      )

  part_length : (i : ℕ) → i ≤ most_parts → length (part_text m S i) ≤ 41092
  unfolding part_text
  part_length i h =
      omega (
        arith,
        six (line (ascii "part") (i ∷ [])) (line (ascii "interior") (interior S i)) (line (ascii "halo") (halo S i))
            (blocks 1 S.parts (λ j. line_unless_empty (ascii "import" ++ spaced j) (imports S i j))) (blocks 1 S.parts (λ j. line_unless_empty (ascii "export" ++ spaced j) (exports S i j)))
            (blocks 0 (top m) (dimension_text m S i)),
        head,
        own_first,
        own_last,
        own_few i,
        exports_few i,
        passing_length (ascii "import") (imports S i) (omega arith) (λ j. imports_small i j),
        passing_length (ascii "export") (exports S i) (omega arith) (λ j. unfold exports in imports_small j i),
        dimensions_length i,
      )
    where
      head : length (line (ascii "part") (i ∷ [])) ≤ 10
      head = line_length (ascii "part") (i ∷ []) (omega arith, tt)

      own_first : length (line (ascii "interior") (interior S i)) ≤ 9 + 5 * length (interior S i)
      own_first = unfold interior in line_length (ascii "interior") (interior S i) (cells_small (λ c. owns S i c && inside_of S i c))

      own_last : length (line (ascii "halo") (halo S i)) ≤ 5 + 5 * length (halo S i)
      own_last = unfold halo in line_length (ascii "halo") (halo S i) (cells_small (λ c. owns S i c && not (inside_of S i c)))

  pub split_length : length (split_text m S) ≤ 657500
  unfolding split_text
  split_length =
      omega (arith, length-append (line (ascii "parts") (S.parts ∷ [])) (blocks 1 S.parts (part_text m S)), head, rest)
    where
      head : length (line (ascii "parts") (S.parts ∷ [])) ≤ 11
      head = unfold split_of in line_length (ascii "parts") (parts ∷ []) (omega (arith, few), tt)

      rest : length (blocks 1 S.parts (part_text m S)) ≤ 657472
      rest = unfold split_of in
          omega (arith, blocks_length 1 (part_text m S) parts, total_bound 1 (λ i. length (part_text m S i)) 41092 parts (λ x h. part_length (1 + x) (omega (arith, few))), few)

-- ---- any input

module _ (m : Bytes) (parts : ℕ) (owners st : Bytes) where
  number_small : pieces_number m parts owners st < 10000
  unfolding pieces_number
  number_small =
      let ts : List Test = split_tests (split_input m parts owners st) [] in
      let us : List Test = size_tests (split_input m parts owners st) in
      omega (arith, first_small (ts ++ us) (small_append ts us (split_small m parts owners [] st) (sizes_small m parts owners st)))

  accepted_length : pieces_number m parts owners st ≡ 0 → length (split_text m (split_of m parts owners st)) ≤ 657500
  accepted_length e =
      let p = both e in
      let f = passed_facts m parts owners 1 1 st p.0 in
      split_length m parts owners st f.mesh f.map p.1
    where
      both : pieces_number m parts owners st ≡ 0 → (split_number m parts owners (1 ∷ 1 ∷ []) st ≡ 0) × (bad12 (split_of m parts owners st) ≡ false)
      both z =
          let q = split_parted m parts owners [] st (size_tests (split_input m parts owners st)) (unfold pieces_number in z) in (
            (unfold split_number in ap first_of (tests_are m parts owners st) ∙ q.0),
            (sizes_fine m parts owners st (unfold sizes_number in q.1)).0,
          )

  pieces_length : length (pieces_text m parts owners st) ≤ 700000
  unfolding pieces_text
  pieces_length = go (eqb (pieces_number m parts owners st) 0) refl
    where
      go : (c : Bool) → eqb (pieces_number m parts owners st) 0 ≡ c
          → length (cond c (split_text m (split_of m parts owners st)) (line (ascii "refused") (pieces_number m parts owners st ∷ []))) ≤ 700000
      go true e = omega (arith, accepted_length (eqb-true (pieces_number m parts owners st) 0 e))
      go false e = omega (arith, line_length (ascii "refused") (pieces_number m parts owners st ∷ []) (number_small, tt))

text_length : (b : Bytes) → length (list_text b) ≤ 700000
unfolding list_text listing_number
text_length b = go (ltb 65536 (length b))
  where
    go : (c : Bool) → length (cond c (line (ascii "too long") []) (cond (eqb (listing_number b) 0)
        (split_text (mesh_piece b) (split_of (mesh_piece b) (parts_piece b) (owners_piece b) (stencil_piece b))) (line (ascii "refused") (listing_number b ∷ [])))) ≤ 700000
    go true = omega (arith, line_length (ascii "too long") [] tt)
    go false = unfold pieces_text pieces_number listing_number in pieces_length (mesh_piece b) (parts_piece b) (owners_piece b) (stencil_piece b)

-- ---- the whole text

module _ (a z : Bytes) (t : ℕ) (text : Bytes) (X : Printed a z 0 t text) where
  within : t ≤ length z
  within = unfold fitting in omega (arith, X.size, X.end, room (length a - 0) text)

  whole : length text ≤ 700000 → 700000 ≤ length a → take t z ≡ text
  whole l h =
      let f = fits l h in
      let e : t ≡ length text = omega (arith, X.end, ap length f) in
      ap₂ (λ n (y : Bytes). take n y) e (X.bytes ∙ ap (over a 0) f ∙ over_front a text) ∙ take-append_seam text (drop (length text) a)
    where
      fits : length text ≤ 700000 → 700000 ≤ length a → fitting a 0 text ≡ text
      fits l h = unfold fitting in take_all (length a - 0) text (omega arith)

pub listed : (input a z : Bytes) (t : ℕ) → Printed a z 0 t (list_text input) → Listed a z t (list_text input)
listed input a z t X = record { printed = X; inside = within a z t (list_text input) X; whole = λ h. whole a z t (list_text input) X (text_length input) h }
