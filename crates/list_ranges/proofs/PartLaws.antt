-- The lines of a part, put one after another. Assumes nothing.
use mathlib.Core.Path.{◌≡◌, refl, sym, ap, ap₂, ◌∙◌, subst}
use mathlib.Core.Bool.{Bool, true, false, cond, ◌||◌}
use lib.Dec.{eqb, ltb}
use borrow.Author.Tests.{ltb-true, ltb-false, lt-ltb, eq-eqb, ne_eqb}
use mathlib.Core.List.{List, [], ◌∷◌, ◌++◌, map, append-nil, append_assoc}
use Prim.Native.Nat.{ℕ, zero, suc, ◌+◌, ◌-◌, ◌≤◌, ◌<◌}
use native.Mathlib.Omega.{arith}
use lib.ListN.{length, take, get_or, length-append}
use Rattle.std.proofs.Common.{get_or-take}
use lib.Seq.{length-take-le, take-length}
use native.Mathlib.Nat.{zero-add}
use native.Mathlib.Numerals.{add-one}
use Rattle.std.specs.List.{list_any}
use Rattle.std.proofs.lemmas.List.Folds.{list_any_more}
use Rattle.vocabulary.specs.Bytes.{Bytes, byte_at}
use Rattle.vocabulary.specs.Intervals.{blocks, some}
use Rattle.vocabulary.proofs.IntervalLaws.{blocks_turn, blocks_start, blocks_cong, blocks_empty, at_last, some_start, some_next, some_at, some_witness}
use Rattle.vocabulary.specs.Lists.{joined}
use Rattle.vocabulary.proofs.ListLaws.{map_append, joined_last}
use Rattle.layout.specs.Limits.{most_elements, most_parts}
use Rattle.mesh.specs.Mesh.{top, counted, below, first_cell, cell_count}
use Rattle.mesh.specs.Accepted.{Accepted}
use Rattle.split.specs.Split.{Split, split_of, interior, halo, imports, exports, holds_lower, touches, another, is_copied, is_shared, is_exposed, is_private}
use Rattle.split_classes.specs.Classes.{of_class, Classed, Prepared, class_cells, part_cells}
use Rattle.split_ranges.specs.Lowers.{Lowered, range_of, row_range}
use Rattle.split_cells.proofs.ClassLists.{row_cells, interior_is, halo_is, imports_are, part_imports}
use Rattle.split_ranges.proofs.LowerLaws.{RangeClasses, range_fits, range_classes, row_range_lem, range_is}
use Rattle.list_text.specs.Listing.{ascii, spaced, line, line_unless_empty, dimension_text, part_text}
use Rattle.list_text.specs.declared.inner.Printer.{Printer}
use Rattle.list_text.specs.Printing.{Put, numbers}
use Rattle.list_ranges.specs.declared.row.Row.{Row}
use Rattle.list_ranges.specs.Lines.{cells_of, range_line, row_lines, dimension_lines, passing, import_line, export_line, own_lines, part_of}
use Rattle.list_text.proofs.PrintLaws.{put_none, put_both}

-- ---- lists by class

-- the first q numbers of a row that are of class k, each after a space
unfoldable pub class_spaced : Bytes → ℕ → ℕ → ℕ → Bytes
class_spaced class first q k = joined (map spaced (class_cells class first q k))

pub class_start : (class : Bytes) (first k : ℕ) (p : Printer) → Put p p (class_spaced class first 0 k)
unfolding class_spaced class_cells blocks joined
class_start class first k p = put_none p

module _ (class : Bytes) (first k : ℕ) (p q : Printer) (n : ℕ) (X : Put p q (class_spaced class first n k)) where
  more : (b : Bool) → eqb (byte_at class n) k ≡ b → class_cells class first (n + 1) k ≡ class_cells class first n k ++ cond b ((first + n) ∷ []) []
  unfolding class_cells of_class
  more b e = blocks_turn 0 (of_class class first k) n ∙ rw zero-add (ap (λ c. blocks 0 n (of_class class first k) ++ cond c ((first + n) ∷ []) []) e)

  pub class_put : (r : Printer) → byte_at class n ≡ k → Put q r (spaced (first + n)) → Put p r (class_spaced class first (n + 1) k)
  class_put r e Y = subst (Put p r) (sym longer) (put_both p q r (class_spaced class first n k) (spaced (first + n)) X Y)
    where
      longer : class_spaced class first (n + 1) k ≡ class_spaced class first n k ++ spaced (first + n)
      longer = unfold class_spaced in
          ap (λ (xs : List ℕ). joined (map spaced xs)) (more true (eq-eqb (byte_at class n) k e))
          ∙ ap joined (map_append spaced (class_cells class first n k) ((first + n) ∷ []))
          ∙ joined_last (map spaced (class_cells class first n k)) (spaced (first + n))

  pub class_left : (byte_at class n ≡ k → ⊥) → Put p q (class_spaced class first (n + 1) k)
  class_left h = subst (Put p q) (sym same) X
    where
      same : class_spaced class first (n + 1) k ≡ class_spaced class first n k
      same = unfold class_spaced in ap (λ (xs : List ℕ). joined (map spaced xs)) (more false (ne_eqb (byte_at class n) k h) ∙ append-nil (class_cells class first n k))

pub class_told : (row : Row) (k n : ℕ) (p q r : Printer) → length row.class.now ≤ n → n ≤ length row.class.now → Put p q (class_spaced row.class.now row.first n k) → Put q r (ascii "\n")
    → Put p r (numbers (cells_of row k))
unfolding numbers class_spaced cells_of
class_told row k n p q r h l X Y =
    let e : n ≡ length row.class.now = omega arith in
    put_both p q r _ (ascii "\n") (subst (λ j. Put p q (joined (map spaced (class_cells row.class.now row.first j k)))) e X) Y

block_within : (g : ℕ → List ℕ) (n i : ℕ) → i < n → length (g i) ≤ length (blocks 0 n g)
unfolding blocks
block_within g zero i h = let z : ⊥ = omega arith in absurd z
block_within g (suc n) i h = go (ltb i n) refl (block_within g n i)
  where
    go : (b : Bool) → ltb i n ≡ b → (i < n → length (g i) ≤ length (blocks 0 n g)) → length (g i) ≤ length (blocks 0 n g ++ g (0 + n))
    go true e f = omega (arith, length-append (blocks 0 n g) (g (0 + n)), f (ltb-true i n e))
    go false e f = let same : i ≡ 0 + n = omega (arith, ltb-false i n e) in rw same (omega (arith, length-append (blocks 0 n g) (g (0 + n))))

-- a test of the first n elements, by their places
any_some : (p : ℕ → Bool) (xs : List ℕ) (n : ℕ) → n ≤ length xs → list_any p (take n xs) ≡ some 0 n (λ q. p (get_or xs q 0))
any_some p xs zero h = sym (some_start 0 (λ q. p (get_or xs q 0)))
any_some p xs (suc n) h =
    ap (λ j. list_any p (take j xs)) (sym (add-one n)) ∙ list_any_more p xs n 0 (omega arith)
    ∙ ap₂ ◌||◌ (any_some p xs n (omega arith)) (ap (λ q. p (get_or xs q 0)) (sym (zero-add n)))
    ∙ sym (some_next 0 n (λ q. p (get_or xs q 0))) ∙ ap (λ j. some 0 j (λ q. p (get_or xs q 0))) (add-one n)

-- the class k is nowhere in a row, or somewhere
module _ (row : Row) (k : ℕ) where
  abbrev at : ℕ → Bool
  at q = eqb (byte_at row.class.now q) k

  somewhere : list_any (λ c. eqb c k) row.class.now ≡ some 0 (length row.class.now) at
  somewhere = ap (list_any (λ c. eqb c k)) (sym (take-length row.class.now)) ∙ any_some (λ c. eqb c k) row.class.now (length row.class.now) (omega arith)

  none_of : list_any (λ c. eqb c k) row.class.now ≡ false → cells_of row k ≡ []
  unfolding cells_of class_cells of_class
  none_of h =
      blocks_empty 0 (of_class row.class.now row.first k) (length row.class.now)
      (λ q l. rw zero-add (ap (λ c. cond c ((row.first + q) ∷ []) []) (rw zero-add at (some_at 0 at (length row.class.now) q (sym somewhere ∙ h) l))))

  some_of : list_any (λ c. eqb c k) row.class.now ≡ true → 1 ≤ length (cells_of row k)
  unfolding cells_of class_cells of_class
  some_of h =
      let (q, l, e) = some_witness 0 at (length row.class.now) (sym somewhere ∙ h) in
      omega (arith, block_within (of_class row.class.now row.first k) (length row.class.now) q l, ap (λ (xs : List ℕ). length xs) (one q e))
    where
      one : (q : ℕ) → at (0 + q) ≡ true → of_class row.class.now row.first k q ≡ (row.first + q) ∷ []
      one q e = ap (λ c. cond c ((row.first + q) ∷ []) []) (rw zero-add at e)

-- ---- a row that is the first bytes of an array

pub cut_row : (row : Row) (class : Bytes) (cells k : ℕ) → row.class.now ≡ take cells class → cells ≤ length class → cells_of row k ≡ class_cells class row.first cells k
unfolding cells_of class_cells of_class
cut_row row class cells k e h =
    let l : length row.class.now ≡ cells = ap length e ∙ length-take-le cells class h in
    ap (λ n. blocks 0 n (of_class row.class.now row.first k)) l
    ∙ blocks_cong 0 (of_class row.class.now row.first k) (of_class class row.first k) cells
    (λ q g. ap (λ c. cond (eqb c k) ((row.first + (0 + q)) ∷ []) []) (ap (λ (xs : Bytes). byte_at xs (0 + q)) e ∙ get_or-take cells class (0 + q) 0 (omega arith)))

-- ---- texts over a range of numbers

module _ (f : ℕ) (g : ℕ → Bytes) where
  pub texts_start : (p : Printer) → Put p p (blocks f 0 g)
  texts_start p = subst (Put p p) (sym (blocks_start f g)) (put_none p)

  pub texts_turn : (p q r : Printer) (k x : ℕ) → Put p q (blocks f k g) → Put q r (g x) → x ≡ f + k → Put p r (blocks f (k + 1) g)
  texts_turn p q r k x X Y e = subst (Put p r) (sym (blocks_turn f g k)) (put_both p q r (blocks f k g) (g (f + k)) X (subst (λ y. Put q r (g y)) e Y))

  pub texts_end : (p q : Printer) (k n : ℕ) → k ≤ n → n ≤ k → Put p q (blocks f k g) → Put p q (blocks f n g)
  texts_end p q k n h l X = at_last (λ x. Put p q (blocks f x g)) k n h l X

-- the same for a loop that counts from 1
module _ (g : ℕ → Bytes) (p q : Printer) (j : ℕ) (X : Put p q (blocks 1 (j - 1) g)) where
  pub lines_turn : (r : Printer) → 1 ≤ j → Put q r (g j) → Put p r (blocks 1 (j + 1 - 1) g)
  lines_turn r l Y = let e : j + 1 - 1 ≡ j - 1 + 1 = omega arith in rw e (texts_turn 1 g p q r (j - 1) j X Y (omega arith))

  pub lines_end : (n : ℕ) → n < j → j ≤ n + 1 → Put p q (blocks 1 n g)
  lines_end n h l = texts_end 1 g p q (j - 1) n (omega arith) (omega arith) X

  pub lines_last : (r : Printer) (n : ℕ) → 1 ≤ j → j ≡ n → Put q r (g j) → Put p r (blocks 1 n g)
  lines_last r n l e Y = texts_end 1 g p r (j + 1 - 1) n (omega arith) (omega arith) (lines_turn r l Y)

-- ---- lines

pub line_told : (label : Bytes) (p q r : Printer) (vs : List ℕ) → Put p q label → Put q r (numbers vs) → Put p r (line label vs)
unfolding line numbers
line_told label p q r vs X Y = put_both p q r label (joined (map spaced vs) ++ ascii "\n") X Y

pub range_told : (name : Bytes) (p q r s t : Printer) (k : ℕ) (vs : List ℕ) → Put p q (ascii "dim") → Put q r (spaced k) → Put r s name → Put s t (numbers vs) → Put p t (range_line name k vs)
unfolding range_line
range_told name p q r s t k vs X Y Z W =
    line_told (ascii "dim" ++ (spaced k ++ name)) p s t vs (put_both p q s (ascii "dim") (spaced k ++ name) X (put_both q r s (spaced k) name Y Z)) W

-- the row of the elements of dimension k
pub row_told : (m lower : Bytes) (k : ℕ) (row : Row) (p q r s t : Printer) → ((wanted : ℕ) → cells_of row wanted ≡ row_range m k lower wanted)
    → Put p q (range_line (ascii " private") k (cells_of row 1)) → Put q r (range_line (ascii " exposed") k (cells_of row 2))
    → Put r s (range_line (ascii " shared") k (cells_of row 3)) → Put s t (range_line (ascii " copied") k (cells_of row 4)) → Put p t (row_lines m lower k)
unfolding row_lines
row_told m lower k row p q r s t same X Y Z W =
    put_both p q t _ _ (of p q (ascii " private") 1 X) (put_both q r t _ _ (of q r (ascii " exposed") 2 Y) (put_both r s t _ _ (of r s (ascii " shared") 3 Z) (of s t (ascii " copied") 4 W)))
  where
    of : (p q : Printer) (name : Bytes) (wanted : ℕ) → Put p q (range_line name k (cells_of row wanted)) → Put p q (range_line name k (row_range m k lower wanted))
    of p q name wanted X = subst (λ (vs : List ℕ). Put p q (range_line name k vs)) (same wanted) X

pub range_row : (m lower : Bytes) (k : ℕ) (row : Row) (lo n : ℕ) → Accepted m → k < top m → lo ≡ below m k → n ≡ counted m k → length lower ≡ most_elements → row.first ≡ lo + 1
    → row.class.now ≡ take n lower → (wanted : ℕ) → cells_of row wanted ≡ row_range m k lower wanted
unfolding row_range
range_row m lower k row lo n A h le ne ll fe re wanted =
    cut_row row lower n wanted re (omega (arith, range_fits m (top m) k lo n A refl h le ne))
    ∙ ap₂ (λ f c. class_cells lower f c wanted) (fe ∙ ap (λ l. l + 1) le) ne
    ∙ sym (ap (λ c. cond c (class_cells lower (below m k + 1) (counted m k) wanted) []) (lt-ltb k (top m) h))

pub dimension_told : (m class holders lower : Bytes) (k : ℕ) (p q : Printer) → Lowered m class holders k lower → Put p q (row_lines m lower k) → Put p q (dimension_lines m class holders k)
dimension_told m class holders lower k p q L X = subst (Put p q) same X
  where
    of : (name : Bytes) (wanted : ℕ) → range_line name k (row_range m k lower wanted) ≡ range_line name k (range_of m class holders k wanted)
    of name wanted = ap (range_line name k) (row_range_lem m class holders k wanted lower L)

    same : row_lines m lower k ≡ dimension_lines m class holders k
    same = unfold row_lines dimension_lines in ap₂ ◌++◌ (of (ascii " private") 1) (ap₂ ◌++◌ (of (ascii " exposed") 2) (ap₂ ◌++◌ (of (ascii " shared") 3) (of (ascii " copied") 4)))

pub passing_none : (label : Bytes) (j : ℕ) (row : Row) (k : ℕ) (p : Printer) → list_any (λ c. eqb c k) row.class.now ≡ false → Put p p (passing label j (cells_of row k))
unfolding passing line_unless_empty
passing_none label j row k p h = subst (λ (vs : List ℕ). Put p p (line_unless_empty (label ++ spaced j) vs)) (sym (none_of row k h)) (put_none p)

full_line : (label : Bytes) (vs : List ℕ) → 1 ≤ length vs → line label vs ≡ line_unless_empty label vs
unfolding line_unless_empty
full_line label [] h = let z : ⊥ = omega arith in absurd z
full_line label (v ∷ vs) h = refl

pub passing_some : (label : Bytes) (j : ℕ) (row : Row) (k : ℕ) (p q r s : Printer) → list_any (λ c. eqb c k) row.class.now ≡ true → Put p q label → Put q r (spaced j)
    → Put r s (numbers (cells_of row k)) → Put p s (passing label j (cells_of row k))
unfolding passing
passing_some label j row k p q r s h X Y Z =
    subst (Put p s) (full_line (label ++ spaced j) (cells_of row k) (some_of row k h)) (line_told (label ++ spaced j) p r s (cells_of row k) (put_both p q r label (spaced j) X Y) Z)

pub own_told : (row : Row) (i : ℕ) (p q r s : Printer) → Put p q (line (ascii "part") (i ∷ [])) → Put q r (line (ascii "interior") (cells_of row 17)) → Put r s (line (ascii "halo") (cells_of row 18))
    → Put p s (own_lines row i)
unfolding own_lines
own_told row i p q r s X Y Z = put_both p q s _ _ X (put_both q r s _ _ Y Z)

-- the cells of class i in part j's row, and the exports of part i to part j
pub export_told : (owners table : Bytes) (ends : List ℕ) (cells i j : ℕ) (class : Bytes) (row : Row) (p q : Printer) → cells ≤ most_elements → Classed owners table ends j cells class
    → row.class.now ≡ take cells class → Put p q (passing (ascii "export") j (cells_of row i)) → Put p q (export_line owners table ends row.first cells i j)
unfolding export_line passing
export_told owners table ends cells i j class row p q few C e X =
    subst (λ (vs : List ℕ). Put p q (line_unless_empty (ascii "export" ++ spaced j) vs))
    (cut_row row class cells i e (omega (arith, C.room, few)) ∙ row_cells owners table ends j row.first cells i class few C) X

-- by the numbers that the code reads off the mesh
pub exports_told : (m owners table : Bytes) (ends : List ℕ) (first cells i parts : ℕ) (p q : Printer) → first ≡ first_cell m → cells ≡ cell_count m
    → Put p q (blocks 1 parts (export_line owners table ends first cells i)) → Put p q (blocks 1 parts (export_line owners table ends (first_cell m) (cell_count m) i))
exports_told m owners table ends first cells i parts p q fe ce X = subst (Put p q) (ap₂ (λ x y. blocks 1 parts (export_line owners table ends x y i)) fe ce) X

-- ---- a part

module _ (m : Bytes) (parts : ℕ) (owners st table : Bytes) (ends : List ℕ) (holders : Bytes) (R : Prepared m parts owners st table ends holders)
    (i : ℕ) (low : 1 ≤ i) (high : i ≤ parts) (fewp : parts ≤ most_parts) (cells : ℕ) (ce : cells ≡ cell_count m) (few : cells ≤ most_elements)
    (class : Bytes) (C : Classed owners table ends i cells class) (row : Row) (fe : row.first ≡ first_cell m) (re : row.class.now ≡ take cells class) where
  abbrev S : Split
  S = split_of m parts owners st

  cells_are : (k : ℕ) → cells_of row k ≡ class_cells class row.first cells k
  cells_are k = cut_row row class cells k re (omega (arith, C.room, few))

  imports_told : blocks 1 parts (import_line row) ≡ blocks 1 parts (λ j. line_unless_empty (ascii "import" ++ spaced j) (imports S i j))
  unfolding import_line passing
  imports_told =
      blocks_cong 1 (λ j. line_unless_empty (ascii "import" ++ spaced j) (cells_of row j)) (λ j. line_unless_empty (ascii "import" ++ spaced j) (imports S i j)) parts
      (λ j h. ap (line_unless_empty (ascii "import" ++ spaced (1 + j)))
      (cells_are (1 + j) ∙ imports_are m parts owners st table ends holders R i row.first cells fe ce class C (1 + j) (omega arith) (omega arith)))

  exports_are : blocks 1 parts (export_line owners table ends (first_cell m) (cell_count m) i) ≡ blocks 1 parts (λ j. line_unless_empty (ascii "export" ++ spaced j) (exports S i j))
  unfolding export_line passing exports
  exports_are =
      blocks_cong 1 (λ j. line_unless_empty (ascii "export" ++ spaced j) (part_cells owners table ends j (first_cell m) (cell_count m) i))
      (λ j. line_unless_empty (ascii "export" ++ spaced j) (imports S j i)) parts
      (λ j h. ap (line_unless_empty (ascii "export" ++ spaced (1 + j))) (part_imports m parts owners st table ends holders R i (1 + j) (first_cell m) (cell_count m) refl refl low (omega arith)))

  classes_told : (e : ℕ) → RangeClasses (touches S e i) (another S i (touches S e)) (another S i (λ j. holds_lower S j e)) (holds_lower S i e)
  classes_told e = range_classes (touches S e i) (another S i (touches S e)) (another S i (λ j. holds_lower S j e)) (holds_lower S i e)

  dimension_is : (k : ℕ) → dimension_lines m class holders k ≡ dimension_text m S i k
  unfolding dimension_lines dimension_text range_line is_private is_exposed is_shared is_copied
  dimension_is k =
      ap₂ ◌++◌ (ap (line (ascii "dim" ++ (spaced k ++ ascii " private"))) (range_is m parts owners st table ends holders R i low high cells ce class C k 1 _ (λ e. (classes_told e).0)))
      (ap₂ ◌++◌ (ap (line (ascii "dim" ++ (spaced k ++ ascii " exposed"))) (range_is m parts owners st table ends holders R i low high cells ce class C k 2 _ (λ e. (classes_told e).1)))
      (ap₂ ◌++◌ (ap (line (ascii "dim" ++ (spaced k ++ ascii " shared"))) (range_is m parts owners st table ends holders R i low high cells ce class C k 3 _ (λ e. (classes_told e).2)))
      (ap (line (ascii "dim" ++ (spaced k ++ ascii " copied"))) (range_is m parts owners st table ends holders R i low high cells ce class C k 4 _ (λ e. (classes_told e).3)))))

  pub part_told : (p q r s t : Printer) → Put p q (own_lines row i) → Put q r (blocks 1 parts (import_line row))
      → Put r s (blocks 1 parts (export_line owners table ends (first_cell m) (cell_count m) i)) → Put s t (blocks 0 (top m) (dimension_lines m class holders)) → Put p t (part_of m parts owners st i)
  part_told p q r s t A D E F = subst (Put p t) whole (put_both p q t (own_lines row i) _ A (put_both q r t (blocks 1 parts (import_line row)) _ D (put_both r s t _ _ E F)))
    where
      whole : own_lines row i ++ (blocks 1 parts (import_line row)
          ++ (blocks 1 parts (export_line owners table ends (first_cell m) (cell_count m) i) ++ blocks 0 (top m) (dimension_lines m class holders)))
          ≡ part_of m parts owners st i
      whole =
          ap₂ ◌++◌ own
          (ap₂ ◌++◌ imports_told (ap₂ ◌++◌ exports_are (blocks_cong 0 (dimension_lines m class holders) (dimension_text m S i) (top m) (λ k h. dimension_is (0 + k)))))
          ∙ joined_up (line (ascii "part") (i ∷ [])) (line (ascii "interior") (interior S i)) (line (ascii "halo") (halo S i)) _
          ∙ (unfold part_of part_text split_of in refl)
        where
          own : own_lines row i ≡ line (ascii "part") (i ∷ []) ++ (line (ascii "interior") (interior S i) ++ line (ascii "halo") (halo S i))
          own =
              unfold own_lines in ap₂ (λ (xs ys : List ℕ). line (ascii "part") (i ∷ []) ++ (line (ascii "interior") xs ++ line (ascii "halo") ys))
              (cells_are 17 ∙ interior_is m parts owners st table ends holders R i row.first cells fe ce class C)
              (cells_are 18 ∙ halo_is m parts owners st table ends holders R i row.first cells fe ce class C)

          joined_up : (xs ys zs ws : Bytes) → (xs ++ (ys ++ zs)) ++ ws ≡ xs ++ (ys ++ (zs ++ ws))
          joined_up xs ys zs ws = append_assoc xs (ys ++ zs) ws ∙ ap (λ us. xs ++ us) (append_assoc ys zs ws)
