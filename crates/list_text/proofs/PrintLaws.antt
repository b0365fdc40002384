-- Texts put one after another. Assumes nothing.
use mathlib.Core.Path.{◌≡◌, refl, sym, ap, ap₂, ◌∙◌, subst}
use mathlib.Core.Bool.{Bool, true, false, cond}
use mathlib.Core.List.{List, [], ◌∷◌, ◌++◌, append-nil}
use Prim.Native.Nat.{ℕ, zero, suc, ◌+◌, ◌-◌, ◌/◌, ◌%◌, ◌≤◌, ◌<◌}
use native.Mathlib.Numerals.{add-one}
use native.Mathlib.Omega.{arith}
use lib.ListN.{length, set, take, get_or, length-append, length-set}
use lib.Seq.{length-take-le, take-suc, take_all}
use lib.Dec.{ltb}
use borrow.Author.Tests.{ltb-true, ltb-false, lt-ltb, le-ltb}
use Rattle.vocabulary.specs.Bytes.{Bytes, over}
use Rattle.vocabulary.proofs.ByteLaws.{over_none, over_one, over_more}
use Rattle.vocabulary.specs.Lists.{joined}
use Rattle.list_text.specs.Listing.{ascii, digits, decimal, spaced, line}
use Rattle.list_text.specs.declared.inner.Printer.{Printer}
use Rattle.list_text.specs.Printing.{fitting, Printed, Put}

-- ---- none, a byte, both

pub print_none : (b : Bytes) (s : ℕ) → Printed b b s s []
print_none b s = record { size = refl; end = e; bytes = t }
  where
    none : fitting b s [] ≡ []
    none = unfold fitting in nothing (length b - s)
      where
        nothing : (n : ℕ) → take {A = ℕ} n [] ≡ []
        nothing zero = refl
        nothing (suc n) = refl

    e : s ≡ s + length (fitting b s [])
    e = rw none (omega arith)

    t : b ≡ over b s (fitting b s [])
    t = rw none (sym (over_none b s))

fits : (b : Bytes) (s : ℕ) (x : ℕ) → s < length b → fitting b s (x ∷ []) ≡ x ∷ []
unfolding fitting
fits b s x h = let e : length b - s ≡ suc (length b - s - 1) = omega arith in rw e (one (length b - s - 1))
  where
    one : (n : ℕ) → take (suc n) (x ∷ []) ≡ x ∷ []
    one zero = refl
    one (suc n) = refl

full : (b : Bytes) (s : ℕ) (xs : Bytes) → length b ≤ s → fitting b s xs ≡ []
unfolding fitting
full b s xs h = let e : length b - s ≡ 0 = omega arith in rw e refl

pub print_full : (b : Bytes) (s x : ℕ) → length b ≤ s → Printed b b s s (x ∷ [])
print_full b s x h = record { size = refl; end = rw (full b s (x ∷ []) h) (omega arith); bytes = rw (full b s (x ∷ []) h) (sym (over_none b s)) }

pub print_byte : (b a : Bytes) (s x : ℕ) → s < length b → a ≡ set b s x → Printed b a s (s + 1) (x ∷ [])
print_byte b a s x h e = record {
  size = ap length e ∙ length-set b s x;
  end = rw (fits b s x h) refl;
  bytes = rw (fits b s x h) (e ∙ sym (over_one b s x h));
}

take_both : (n : ℕ) (xs ys : Bytes) → take n (xs ++ ys) ≡ take n xs ++ take (n - length xs) ys
take_both zero xs ys = let e : 0 - length xs ≡ 0 = omega arith in rw e refl
take_both (suc n) [] ys = let e : suc n - 0 ≡ suc n = omega arith in rw e refl
take_both (suc n) (x ∷ xs) ys = let e : suc n - length (x ∷ xs) ≡ n - length xs = omega arith in rw e (ap {B = List ℕ} (λ r. x ∷ r) (take_both n xs ys))

-- what a text leaves of the room
left : (r : ℕ) (xs : Bytes) → r - length (take r xs) ≡ r - length xs
left r xs = go (ltb r (length xs)) refl
  where
    go : (t : Bool) → ltb r (length xs) ≡ t → r - length (take r xs) ≡ r - length xs
    go true h = omega (arith, length-take-le r xs (omega (arith, ltb-true r (length xs) h)), ltb-true r (length xs) h)
    go false h = ap (λ (ys : Bytes). r - length ys) (take_all r xs (ltb-false r (length xs) h))

pub room : (r : ℕ) (xs : Bytes) → length (take r xs) ≤ r
room zero xs = omega arith
room (suc r) [] = omega arith
room (suc r) (x ∷ xs) = omega (arith, room r xs)

fitting_both : (a b : Bytes) (s t : ℕ) (xs ys : Bytes) → Printed a b s t xs → fitting a s (xs ++ ys) ≡ fitting a s xs ++ fitting b t ys
unfolding fitting
fitting_both a b s t xs ys X = take_both (length a - s) xs ys ∙ ap (λ n. take (length a - s) xs ++ take n ys) same
  where
    same : length a - s - length xs ≡ length b - t
    same = unfold fitting in omega (arith, X.size, X.end, left (length a - s) xs)

over_both : (a b : Bytes) (s t : ℕ) (xs zs : Bytes) → Printed a b s t xs → zs ≡ fitting b t zs → over b t zs ≡ over a s (fitting a s xs ++ zs)
over_both a b s t xs zs X z = go (ltb (length a) s) refl
  where
    go : (c : Bool) → ltb (length a) s ≡ c → over b t zs ≡ over a s (fitting a s xs ++ zs)
    go true h =
        let l : length a ≤ s = omega (arith, ltb-true (length a) s h) in
        let none : zs ≡ [] = z ∙ full b t zs (omega (arith, X.size, X.end)) in
        let first : fitting a s xs ≡ [] = full a s xs l in
        rw (none, first) (over_none b t ∙ X.bytes ∙ ap (over a s) first)
    go false h =
        ap₂ (λ (y : Bytes) n. over y n zs) X.bytes X.end
        ∙ over_more a s (fitting a s xs) (unfold fitting in omega (arith, room (length a - s) xs, ltb-false (length a) s h)) zs

fitting_twice : (b : Bytes) (t : ℕ) (ys : Bytes) → fitting b t ys ≡ fitting b t (fitting b t ys)
unfolding fitting
fitting_twice b t ys = sym (take_all (length b - t) (take (length b - t) ys) (room (length b - t) ys))

pub print_both : (a b c : Bytes) (s t u : ℕ) (xs ys : Bytes) → Printed a b s t xs → Printed b c t u ys → Printed a c s u (xs ++ ys)
print_both a b c s t u xs ys X Y = record {
  size = Y.size ∙ X.size;
  end = rw (fitting_both a b s t xs ys X) (omega (arith, Y.end, X.end, length-append (fitting a s xs) (fitting b t ys)));
  bytes = Y.bytes ∙ over_both a b s t xs (fitting b t ys) X (fitting_twice b t ys) ∙ ap (over a s) (sym (fitting_both a b s t xs ys X));
}

-- ---- a printer

pub put_none : (p : Printer) → Put p p []
put_none p = record { same = refl; printed = print_none p.out.now p.at }

pub put_both : (p q r : Printer) (xs ys : Bytes) → Put p q xs → Put q r ys → Put p r (xs ++ ys)
put_both p q r xs ys X Y = record { same = Y.same ∙ X.same; printed = print_both p.out.now q.out.now r.out.now p.at q.at r.at xs ys X.printed Y.printed }

-- ---- a text, byte by byte

pub text_turn : (text : Bytes) (p q r : Printer) (k : ℕ) → k < length text → Put p q (take k text) → Put q r (get_or text k 0 ∷ []) → Put p r (take (k + 1) text)
text_turn text p q r k h X Y = subst (Put p r) (sym (rw add-one (take-suc text k 0 h))) (put_both p q r (take k text) (get_or text k 0 ∷ []) X Y)

-- ---- decimals: more digits than a number has are none

more_than : (n k v : ℕ) → (ltb v 10 ≡ false → digits n (v / 10) ≡ digits k (v / 10)) → digits (suc n) v ≡ digits (suc k) v
more_than n k v ih = go (ltb v 10) refl
  where
    go : (c : Bool) → ltb v 10 ≡ c → digits (suc n) v ≡ digits (suc k) v
    go true e = unfold digits in rw e refl
    go false e = unfold digits in ap (λ (ds : Bytes). cond (ltb v 10) ((48 + v) ∷ []) (ds ++ ((48 + v % 10) ∷ []))) (ih e)

enough : (n k v : ℕ) → v < n → v < k → digits n v ≡ digits k v
enough zero k v h l = let z : ⊥ = omega arith in absurd z
enough (suc n) zero v h l = let z : ⊥ = omega arith in absurd z
enough (suc n) (suc k) v h l = more_than n k v (λ e. enough n k (v / 10) (omega (arith, ltb-false v 10 e)) (omega (arith, ltb-false v 10 e)))

pub decimal_one : (p q : Printer) (v : ℕ) → v < 10 → Put p q ((48 + v) ∷ []) → Put p q (decimal v)
decimal_one p q v h X = subst (Put p q) (sym one) X
  where
    one : decimal v ≡ (48 + v) ∷ []
    one = unfold decimal digits in rw (lt-ltb v 10 h) refl

pub decimal_more : (p q r : Printer) (v : ℕ) → 10 ≤ v → Put p q (decimal (v / 10)) → Put q r ((48 + v % 10) ∷ []) → Put p r (decimal v)
decimal_more p q r v h X Y = subst (Put p r) (sym more) (put_both p q r (decimal (v / 10)) ((48 + v % 10) ∷ []) X Y)
  where
    last : digits (suc v) v ≡ digits v (v / 10) ++ ((48 + v % 10) ∷ [])
    last = unfold digits in ap (λ c. cond c ((48 + v) ∷ []) (digits v (v / 10) ++ ((48 + v % 10) ∷ []))) (le-ltb v 10 h)

    more : decimal v ≡ decimal (v / 10) ++ ((48 + v % 10) ∷ [])
    more = unfold decimal in last ∙ ap (λ (ds : Bytes). ds ++ ((48 + v % 10) ∷ [])) (enough v (suc (v / 10)) (v / 10) (omega arith) (omega arith))

pub spaced_told : (p q r : Printer) (v : ℕ) → Put p q (ascii " ") → Put q r (decimal v) → Put p r (spaced v)
unfolding spaced
spaced_told p q r v X Y = put_both p q r (ascii " ") (decimal v) X Y

-- ---- lines

pub line_one : (label : Bytes) (p q r s : Printer) (v : ℕ) → Put p q label → Put q r (spaced v) → Put r s (ascii "\n") → Put p s (line label (v ∷ []))
unfolding line joined
line_one label p q r s v X Y Z =
    put_both p q s label ((spaced v ++ []) ++ ascii "\n") X
    (subst (λ (x : Bytes). Put q s (x ++ ascii "\n")) (sym (append-nil (spaced v))) (put_both q r s (spaced v) (ascii "\n") Y Z))
