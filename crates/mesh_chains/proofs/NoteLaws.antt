-- The chains followed and written down one after another: test 4. Assumes nothing.
use mathlib.Core.Path.{◌≡◌, refl, sym, ap, ap₂, ◌∙◌}
use mathlib.Core.Bool.{Bool, true, false, ◌||◌}
use mathlib.Core.List.{List, [], ◌∷◌, ◌++◌, map}
use Prim.Native.Nat.{ℕ, suc, ◌+◌, ◌-◌, ◌≤◌, ◌<◌}
use native.Mathlib.Omega.{arith}
use lib.Dec.{eqb, ltb, leb}
use lib.ListN.{length, get_or, set, take, drop, length-append, length-map, length-set}
use lib.Seq.{sets, sets-eq, length-sets, take_at, get_or-set_same, get_or-set_other}
use borrow.Author.Tests.{le-leb, lt-leb, eq-eqb, ne_eqb, eqb-true, eqb-false}
use Rattle.vocabulary.specs.Bytes.{Bytes}
use Rattle.vocabulary.specs.Intervals.{is_up_to, some, blocks}
use Rattle.vocabulary.proofs.IntervalLaws.{blocks_turn, blocks_split, blocks_length, total_cong}
use Rattle.vocabulary.specs.Lists.{repeats, some_of}
use Rattle.vocabulary.proofs.ListLaws.{and_right, not_both}
use Rattle.layout.specs.Limits.{most_records}
use Rattle.mesh.specs.Mesh.{counted, below, elements, next_of, head_of, element_in, record_count, follow, records, chain, all_records, headed}
use Rattle.mesh.specs.Meet.{Met, met, meet, Sizes}
use Rattle.mesh.proofs.MeetLaws.{meet_on, meet_stays}
use Rattle.mesh.proofs.FollowLaws.{chain_ended, chain_spent, chain_more}
use Rattle.mesh_chains.specs.Written.{ChainNotes, noted, note, chains, Places, MarksBelow, Wrote, Written}
use Rattle.mesh_chains.proofs.RecordLaws.{records_positive, meeting_told, met_few, records_told}

-- ---- the loop over a chain: w is what noting the whole chain gives

pub note_begin : (m : Bytes) (r n h t : ℕ) (s items : List ℕ) → n ≡ t + r + 1 → note m r s t items (follow m (n - t) h) ≡ note m r s t items (follow m (r + 1) h)
note_begin m r n h t s items e = let q : n - t ≡ r + 1 = omega arith in rw q

module _ (m : Bytes) (r n t i : ℕ) (s items : List ℕ) (w : ChainNotes) (inv : note m r s t items (follow m (n - t) i) ≡ w) where
  pub note_done : i < 1 → noted false s t items ≡ w
  unfolding note
  note_done z = rw (chain_ended m n t i z) at inv

  pub note_spent : t ≤ n → n ≤ t → noted false s n items ≡ w
  unfolding note
  note_spent l h = let q : n ≡ t = omega arith in ap (λ x. noted false s x items) q ∙ rw (chain_spent m n t i h) at inv

  module _ (h : t < n) (z : 1 ≤ i) where
    opened : note m r s t items (i ∷ follow m (n - (t + 1)) (next_of m i)) ≡ w
    opened = rw (chain_more m n t i h z) at inv

    pub note_above : r < i → noted true s t items ≡ w
    unfolding note is_up_to
    note_above a = simp (and_right (leb 1 i) (leb i r) (lt-leb i r a), note) at opened

    module _ (b : i ≤ r) where
      inside : elim (eqb (get_or s i 0) 1) as (λ _. ChainNotes) [
        | true ↦ noted true s t items
        | false ↦ note m r (set s i 1) (t + 1) (set items t (element_in m i)) (follow m (n - (t + 1)) (next_of m i))
      ] ≡ w
      unfolding note is_up_to
      inside = simp (le-leb _ _ z, le-leb _ _ b, note) at opened

      pub note_again : get_or s i 0 ≡ 1 → noted true s t items ≡ w
      note_again q = rw (eq-eqb (get_or s i 0) 1 q) at inside

      pub note_turn : (g x : ℕ) (l : List ℕ) → (get_or s i 0 ≡ 1 → ⊥) → g ≡ element_in m i → l ≡ set items t g → x ≡ next_of m i
          → note m r (set s i 1) (t + 1) l (follow m (n - (t + 1)) x) ≡ w
      note_turn g x l q e f y = rw (f, e, y) (rw (ne_eqb (get_or s i 0) 1 q) at inside)

-- ---- noting is meeting, and writing down

abbrev met_of : ChainNotes → Met
met_of (noted b s t items) = met b s

abbrev amiss : ChainNotes → Bool
amiss (noted b s t items) = b

note_meets : (m : Bytes) (r : ℕ) (s : List ℕ) (t : ℕ) (items xs : List ℕ) → met_of (note m r s t items xs) ≡ meet 1 r s xs
unfolding note meet
note_meets m r s t items [] = refl
note_meets m r s t items (i ∷ is) = go (is_up_to r i) (eqb (get_or s i 0) 1) (note_meets m r (set s i 1) (t + 1) (set items t (element_in m i)) is)
  where
    go : (b c : Bool) → met_of (note m r (set s i 1) (t + 1) (set items t (element_in m i)) is) ≡ meet 1 r (set s i 1) is
        → met_of (elim b as (λ _. ChainNotes) [
          | true ↦ elim c as (λ _. ChainNotes) [ true ↦ noted true s t items | false ↦ note m r (set s i 1) (t + 1) (set items t (element_in m i)) is ]
          | false ↦ noted true s t items
        ])
        ≡ elim b as (λ _. Met) [ true ↦ elim c as (λ _. Met) [ true ↦ met true s | false ↦ meet 1 r (set s i 1) is ] | false ↦ met true s ]
    go false c ih = refl
    go true true ih = refl
    go true false ih = ih

-- where nothing was amiss, all elements are written down
note_writes : (m : Bytes) (r : ℕ) (s : List ℕ) (t : ℕ) (items xs s' : List ℕ) (t' : ℕ) (items' : List ℕ) → noted false s' t' items' ≡ note m r s t items xs
    → (t' ≡ t + length xs) × (items' ≡ sets items t (map (element_in m) xs))
unfolding note
note_writes m r s t items [] s' t' items' e = (ap place e ∙ (let q : t ≡ t + 0 = omega arith in q), ap list e)
  where
    place : ChainNotes → ℕ
    place (noted b s t items) = t

    list : ChainNotes → List ℕ
    list (noted b s t items) = items
note_writes m r s t items (i ∷ is) s' t' items' e =
    go (is_up_to r i) (eqb (get_or s i 0) 1) e (λ q. note_writes m r (set s i 1) (t + 1) (set items t (element_in m i)) is s' t' items' q)
  where
    go : (b c : Bool)
        → noted false s' t' items' ≡ elim b as (λ _. ChainNotes) [
          | true ↦ elim c as (λ _. ChainNotes) [ true ↦ noted true s t items | false ↦ note m r (set s i 1) (t + 1) (set items t (element_in m i)) is ]
          | false ↦ noted true s t items
        ]
        → (noted false s' t' items' ≡ note m r (set s i 1) (t + 1) (set items t (element_in m i)) is
        → (t' ≡ t + 1 + length is) × (items' ≡ sets (set items t (element_in m i)) (t + 1) (map (element_in m) is)))
        → (t' ≡ t + suc (length is)) × (items' ≡ sets (set items t (element_in m i)) (suc t) (map (element_in m) is))
    go false c q ih = absurd (not_both false (ap amiss q) refl)
    go true true q ih = absurd (not_both false (ap amiss q) refl)
    go true false q ih =
        let z : t + 1 ≡ suc t = omega arith in
        (omega (arith, (ih q).0), rw z at (ih q).1)

-- ---- one chain more

module _ (m : Bytes) (k : ℕ) (items ends : List ℕ) (W : Wrote m k items ends) (few : k < elements m) (t : ℕ) (items' : List ℕ)
    (te : t ≡ length (chains m k) + length (chain m (1 + k))) (room : t ≤ record_count m) (ie : items' ≡ sets items (length (chains m k)) (chain m (1 + k))) where
  more : chains m (k + 1) ≡ chains m k ++ chain m (1 + k)
  unfolding chains
  more = blocks_turn 1 (chain m) k

  pub more_length : t ≡ length (chains m (k + 1))
  more_length = te ∙ sym (ap length more ∙ length-append (chains m k) (chain m (1 + k)))

  more_items : take (length (chains m (k + 1))) items' ≡ chains m (k + 1)
  more_items =
      ap₂ (λ (n : ℕ) (l : List ℕ). take n l) (sym more_length)
      (ie ∙ sets-eq (chain m (1 + k)) items (length (chains m k)) (omega (arith, W.items_long)) ∙ ap (λ (l : List ℕ). (l ++ chain m (1 + k)) ++ rest) W.items_are
      ∙ ap (λ (l : List ℕ). l ++ rest) (sym more))
      ∙ take_at (chains m (k + 1)) rest t (sym more_length)
    where
      rest : List ℕ
      rest = drop (length (chains m k) + length (chain m (1 + k))) items

  pub wrote_more : Wrote m (k + 1) items' (set ends (1 + k) t)
  wrote_more = record {
    items_long = omega (arith, ap length ie, length-sets items (length (chains m k)) (chain m (1 + k)), W.items_long);
    ends_long = omega (arith, length-set ends (1 + k) t, W.ends_long);
    room = omega (arith, more_length);
    items_are = more_items;
    ends_are = λ j h. go j h (eqb j (1 + k)) refl;
  }
    where
      go : (j : ℕ) → j ≤ k + 1 → (b : Bool) → eqb j (1 + k) ≡ b → get_or (set ends (1 + k) t) j 0 ≡ length (chains m j)
      go j h true e =
          let q : j ≡ k + 1 = omega (arith, eqb-true j (1 + k) e) in
          ap (λ x. get_or (set ends (1 + k) t) x 0) (eqb-true j (1 + k) e) ∙ get_or-set_same ends (1 + k) t 0 (omega (arith, W.ends_long))
          ∙ more_length ∙ ap (λ x. length (chains m x)) (sym q)
      go j h false e =
          let n : j ≡ 1 + k → ⊥ = eqb-false j (1 + k) e in
          get_or-set_other ends (1 + k) j t 0 n ∙ W.ends_are j (omega arith)

-- ---- the loop over the elements

-- the chains of the elements 1 to k are met, from the marks in blank on, and written down, up to place t, with nothing amiss
pub record Noting (m : Bytes) (r : ℕ) (blank : List ℕ) (k : ℕ) (seen : List ℕ) (t : ℕ) (items ends : List ℕ) : Type 0 where
  pub met_is : met false seen ≡ meet 1 r blank (blocks 1 k (records m))
  pub place_is : t ≡ length (chains m k)
  pub wrote : Wrote m k items ends

pub noting_start : (m : Bytes) (d n r : ℕ) (blank items ends : List ℕ) → Sizes m d n r → Places n r items ends → Noting m r blank (1 - 1) blank 0 items ends
unfolding blocks meet chains
noting_start m d n r blank items ends z p = record {
  met_is = refl;
  place_is = refl;
  wrote = record {
    items_long = omega (arith, z.r_is, p.items_long);
    ends_long = omega (arith, z.n_is, p.ends_long);
    room = omega arith;
    items_are = refl;
    ends_are = λ j l. let q : j ≡ 0 = omega arith in rw q p.none;
  };
}

-- chains are as long as their records
chains_records : (m : Bytes) (k : ℕ) → length (chains m k) ≡ length (blocks 1 k (records m))
unfolding chains chain
chains_records m k =
    blocks_length 1 (chain m) k ∙ total_cong 1 _ _ k (λ j h. length-map (records m (1 + j)) (element_in m)) ∙ sym (blocks_length 1 (records m) k)

module _ (m : Bytes) (d n r : ℕ) (z : Sizes m d n r) (blank : List ℕ) (B : MarksBelow r 1 blank) (k : ℕ) (s : List ℕ) (t : ℕ) (items ends : List ℕ)
    (N : Noting m r blank k s t items ends) where
  module _ (h : ℕ) (he : h ≡ head_of m (1 + k)) (b : Bool) (s' : List ℕ) (t' : ℕ) (items' : List ℕ)
      (f : noted b s' t' items' ≡ note m r s t items (follow m (r + 1) h)) where
    here : follow m (r + 1) h ≡ records m (1 + k)
    unfolding records
    here = rw (← z.r_is, ← he)

    meets : met b s' ≡ meet 1 r blank (blocks 1 (k + 1) (records m))
    meets =
        ap met_of f ∙ note_meets m r s t items (follow m (r + 1) h) ∙ ap (meet 1 r s) here
        ∙ sym (meet_on 1 r blank (blocks 1 k (records m)) s (records m (1 + k)) N.met_is) ∙ ap (meet 1 r blank) (sym (blocks_turn 1 (records m) k))

    amiss_told : b ≡ true → k < n → true ≡ some_of (all_records m) (ltb r) || repeats (all_records m)
    unfolding all_records
    amiss_told q l = meeting_told r blank B (all_records m) (records_positive m (elements m)) s' true (sym split)
      where
        split : meet 1 r blank (all_records m) ≡ met true s'
        split =
            let p : elements m ≡ k + 1 + (n - (k + 1)) = omega (arith, z.n_is) in
            rw (p, blocks_split 1 (records m) (k + 1) (n - (k + 1)))
            (meet_stays 1 r blank (blocks 1 (k + 1) (records m)) s' (blocks (1 + (k + 1)) (n - (k + 1)) (records m)) (ap (λ x. met x s') (sym q) ∙ meets))

    module _ (q : b ≡ false) where
      writes : (t' ≡ t + length (records m (1 + k))) × (items' ≡ sets items t (chain m (1 + k)))
      unfolding chain
      writes = note_writes m r s t items (records m (1 + k)) s' t' items' (ap (λ x. noted x s' t' items') (sym q) ∙ f ∙ ap (note m r s t items) here)

      place : t' ≡ length (chains m k) + length (chain m (1 + k))
      unfolding chain
      place = omega (arith, writes.0, N.place_is, length-map (records m (1 + k)) (element_in m))

      noted_few : t' ≤ r
      unfolding chains
      noted_few = omega (arith, more, met_few r blank B (blocks 1 (k + 1) (records m)) (records_positive m (k + 1)) s' (ap (λ x. met x s') (sym q) ∙ meets))
        where
          more : t' ≡ length (blocks 1 (k + 1) (records m))
          more =
              place ∙ sym (ap length (blocks_turn 1 (chain m) k) ∙ length-append (chains m k) (chain m (1 + k))) ∙ chains_records m (k + 1)

      next : k < n → Noting m r blank (k + 1) s' t' items' (set ends (1 + k) t')
      next l =
          let ie : items' ≡ sets items (length (chains m k)) (chain m (1 + k)) = writes.1 ∙ ap (λ x. sets items x (chain m (1 + k))) N.place_is in
          record {
            met_is = ap (λ x. met x s') (sym q) ∙ meets;
            place_is = more_length m k items ends N.wrote (omega (arith, z.n_is)) t' items' place (omega (arith, noted_few, z.r_is)) ie;
            wrote = wrote_more m k items ends N.wrote (omega (arith, z.n_is)) t' items' place (omega (arith, noted_few, z.r_is)) ie;
          }

-- the same for the element e, which is next
module _ (m : Bytes) (d n r : ℕ) (z : Sizes m d n r) (blank : List ℕ) (B : MarksBelow r 1 blank) (e : ℕ) (low : 1 ≤ e) (s : List ℕ) (t : ℕ) (items ends : List ℕ)
    (N : Noting m r blank (e - 1) s t items ends) where
  pub noting_room : t ≤ most_records
  noting_room = omega (arith, N.place_is, N.wrote.room, z.r_is, z.r_high)

  pub noting_end : e ≤ 1 + n → 1 + n ≤ e → false ≡ some_of (all_records m) (ltb r) || repeats (all_records m)
  unfolding all_records
  noting_end g h =
      let q : e - 1 ≡ elements m = omega (arith, z.n_is) in
      meeting_told r blank B (all_records m) (records_positive m (elements m)) s false (rw q at N.met_is)

  pub noting_wrote : e ≤ 1 + n → 1 + n ≤ e → Wrote m n items ends
  noting_wrote g h = let q : e - 1 ≡ n = omega arith in rw q at N.wrote

  module _ (h : ℕ) (he : h ≡ head_of m e) (b : Bool) (s' : List ℕ) (t' : ℕ) (items' : List ℕ) (f : noted b s' t' items' ≡ note m r s t items (follow m (r + 1) h)) where
    head_is : h ≡ head_of m (1 + (e - 1))
    head_is = let q : 1 + (e - 1) ≡ e = omega arith in rw q he

    pub noting_found : b ≡ true → e < 1 + n → true ≡ some_of (all_records m) (ltb r) || repeats (all_records m)
    noting_found q g = amiss_told m d n r z blank B (e - 1) s t items ends N h head_is b s' t' items' f q (omega arith)

    pub noting_fits : b ≡ false → t' < 65536
    noting_fits q = omega (arith, noted_few m d n r z blank B (e - 1) s t items ends N h head_is b s' t' items' f q, z.r_high)

    pub noting_turn : b ≡ false → e < 1 + n → Noting m r blank (e + 1 - 1) s' t' items' (set ends e t')
    noting_turn q g =
        let x : 1 + (e - 1) ≡ e = omega arith in
        let y : e - 1 + 1 ≡ e + 1 - 1 = omega arith in
        rw (x, y) at (next m d n r z blank B (e - 1) s t items ends N h head_is b s' t' items' f q (omega arith))

-- what test 4 leaves
pub written : (m : Bytes) (d n r : ℕ) (items ends : List ℕ) (b c : Bool) (points : ℕ) → Sizes m d n r → points ≡ counted m 0 → b ≡ some 1 points (headed m) → b ≡ false
    → c ≡ some_of (all_records m) (ltb r) || repeats (all_records m) → (c ≡ false → Wrote m n items ends) → c ≡ false → Written m items ends
written m d n r items ends b c points z pe f e g w q = record {
  sizes = record {
    d_is = refl;
    d_high = omega (arith, z.d_is, z.d_high);
    n_is = refl;
    n_high = omega (arith, z.n_is, z.n_high);
    n_last = ap (λ x. below m (x + 1)) (sym z.d_is) ∙ z.n_last ∙ z.n_is;
    r_is = refl;
    r_high = omega (arith, z.r_is, z.r_high);
  };
  four = sym (records_told m points pe b f e r c z.r_is g) ∙ q;
  wrote = rw z.n_is at (w q);
}
