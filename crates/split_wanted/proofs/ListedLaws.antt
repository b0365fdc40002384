-- Which list each kind wanted is. Assumes nothing.
use mathlib.Core.Path.{◌≡◌, refl, sym, ap, ap₂, ◌∙◌, subst}
use mathlib.Core.Bool.{cond}
use mathlib.Core.List.{List, []}
use Rattle.std.specs.Prelude.{None, Some}
use Prim.Native.Nat.{ℕ, ◌≤◌}
use borrow.Author.Tests.{eq-eqb, ne_eqb}
use Rattle.vocabulary.specs.Bytes.{Bytes}
use Rattle.layout.specs.Limits.{most_parts}
use Rattle.mesh.specs.Mesh.{first_cell, cell_count}
use Rattle.split_classes.specs.Classes.{class_cells, class_order, Appended}
use Rattle.split_cells.proofs.AddLaws.{add_none}
use Rattle.split_ranges.specs.Lowers.{range_of, row_range, Lowered}
use Rattle.split_ranges.proofs.LowerLaws.{range_told}
use Rattle.split_wanted.specs.Giving.{other_of, row_of, range_wanted, cell_words, words_by, chosen}
use Rattle.split.specs.declared.Wanted.{Wanted}
use Rattle.split.specs.declared.Wanted.TheVariants.{Interior, Halo, Locals, Imports, Exports, Private, Exposed, Shared, Copied}

-- what was added for the list u is that of w, where w is u
module _ (w u : Wanted) (m : Bytes) (parts : ℕ) (class : Bytes) (i : ℕ) (a : List ℕ) (e : w ≡ u) where
  -- the code has read the first cell and the count of cells
  module _ (b : List ℕ) (n first cells : ℕ) (fe : first ≡ first_cell m) (ce : cells ≡ cell_count m) where
    pub chose_cells : (s : ℕ) → Appended a b 0 n (class_cells class first cells s)
        → cell_words u m parts class i ≡ class_cells class (first_cell m) (cell_count m) s → Appended a b 0 n (cell_words w m parts class i)
    chose_cells s X q = rw (e, q, sym fe, sym ce) X

    pub chose_order : Appended a b 0 n (class_order class first cells parts)
        → cell_words u m parts class i ≡ class_order class (first_cell m) (cell_count m) parts → Appended a b 0 n (cell_words w m parts class i)
    chose_order X q = rw (e, q, sym fe, sym ce) X

-- what was added is the list that is chosen, of cells or a range
module _ (w : Wanted) (m : Bytes) (parts : ℕ) (class holders : Bytes) (i : ℕ) (a b : List ℕ) (n : ℕ) where
  pub added_cells : range_wanted w ≡ None → Appended a b 0 n (cell_words w m parts class i) → Appended a b 0 n (chosen w m parts class holders i)
  unfolding chosen
  added_cells z = subst (Appended a b 0 n) (sym (ap (λ x. words_by x w m parts class holders i) z))

  pub added_range : {s k : ℕ} → range_wanted w ≡ Some (s, k) → (lower : Bytes) → Lowered m class holders k lower → Appended a b 0 n (row_range m k lower s)
      → Appended a b 0 n (chosen w m parts class holders i)
  unfolding chosen
  added_range {s = s} {k = k} z lower L X =
      subst (Appended a b 0 n) (sym (ap (λ x. words_by x w m parts class holders i) z)) (range_told m class holders k s lower a b n L X)

-- the part that imports are from
pub other_few : (w : Wanted) (i j : ℕ) → other_of w i ≤ most_parts → w ≡ Imports j → j ≤ most_parts
other_few w i j few e = subst (λ x. other_of x i ≤ most_parts) e few

-- a list that is none of cells has no words of cells
module _ (m : Bytes) (parts : ℕ) (class : Bytes) (i : ℕ) where
  pub no_cells : (w : Wanted) → (w ≡ Interior → ⊥) → (w ≡ Halo → ⊥) → (w ≡ Locals → ⊥) → ((j : ℕ) → w ≡ Imports j → ⊥) → ((j : ℕ) → w ≡ Exports j → ⊥)
      → cell_words w m parts class i ≡ []
  unfolding cell_words
  no_cells Interior p q r s t = absurd (p refl)
  no_cells Halo p q r s t = absurd (q refl)
  no_cells Locals p q r s t = absurd (r refl)
  no_cells (Imports j) p q r s t = absurd (s j refl)
  no_cells (Exports j) p q r s t = absurd (t j refl)
  no_cells (Private k) p q r s t = refl
  no_cells (Exposed k) p q r s t = refl
  no_cells (Shared k) p q r s t = refl
  no_cells (Copied k) p q r s t = refl

  pub chose_none : (w : Wanted) (a : List ℕ) → cell_words w m parts class i ≡ [] → Appended a a 0 0 (cell_words w m parts class i)
  chose_none w a q = rw q (add_none a 0)
