-- Every call keeps the undivided depths: what the lists of all parts must have, what a state holds during a run, and that each call keeps it.
-- Assumes nothing.
use Rattle.std.specs.Prelude.{◌≡◌, refl, ◌⊎◌, ◌≢◌, Bool, true, false, List, map, ℕ, suc, ◌+◌, ◌-◌, ◌<◌, ◌≤◌, eqb, get_or, take}
use Rattle.std.proofs.Math.Path.{sym, ap, ap₂}
use Rattle.std.proofs.Common.{◌∙◌, subst, inl, ⊎_elim, add-one, arith, eqb-true}
use Rattle.std.proofs.Math.ListN.{length, set, length-set}
use Rattle.std.proofs.Math.Seq.{get_or-set_other}
use Rattle.std.proofs.lemmas.Bool.{eqb-false}
use Rattle.vocabulary.specs.Bytes.{Bytes, byte_at}
use Rattle.vocabulary.proofs.ByteLaws.{Place, below, inside, above, place}
use Rattle.vocabulary.specs.Lists.{All}
use Rattle.vocabulary.proofs.ListLaws.{All_map, All_get_or, map_cong, map_map}
use Rattle.layout.proofs.WordLaws.{word_set}
use Rattle.layout.specs.Limits.{most_parts}
use Rattle.depths.specs.Depths.{four}
use Rattle.depths.proofs.DepthLaws.{length_four, four_set, fours_at}
use Rattle.mesh.specs.Walks.{Near}
use Rattle.round_rule.specs.Rules.{Old}
use Rattle.round.specs.Rounds.{Scheme, depth_in, olds_in, new_in, round, undivided}
use Rattle.messages.specs.Messages.{depth_start, message_size, from_in, to_in, round_in, count_in}
use Rattle.part_state.specs.State.{LocalNear, Lists, dynamic, round_at, taken_place, written_place, depth_place}
use Rattle.part_state.proofs.StateLaws.{Frame, frame_take, frame_dynamic}
use Rattle.part_calls.specs.Calls.{depth_at, message_to, written_in, taken_in, new_at, advanced_in}
use Rattle.part_calls.proofs.CallLaws.{Room, Taken}
use Rattle.part_calls.proofs.EffectLaws.{take_flag, take_frame, take_word, take_in, take_below, take_above, message_words, message_length, message_depth}
use Rattle.part_calls.proofs.EffectLaws.{advance_frame, advance_word, advance_flag, advance_owned}

-- ---- what the lists of all parts must have

abbrev pub Part : ℕ → ℕ → Type 0
Part parts i = (1 ≤ i) × (i ≤ parts)

-- a cell of the scheme
abbrev pub SchemeCell : Scheme → ℕ → Type 0
SchemeCell X c = (X.first ≤ c) × (c < X.first + X.cells)

-- a local number's entry by global numbers
abbrev pub globally : Lists → LocalNear → Near
globally L e = record { cell = L.global e.local; layer = e.layer }

-- local number l is the t-th imported from a part
pub record Block (L : Lists) (l : ℕ) : Type 0 where
  pub from : ℕ
  pub from_least : 1 ≤ from
  pub from_most : from ≤ most_parts
  pub at : ℕ
  pub at_lt : at < L.imported from
  pub is : l ≡ L.before from + 1 + at

-- the lists `Ls i` of the parts i of a scheme X whose cells have these owners
pub record Parted (X : Scheme) (owner : ℕ → ℕ) (parts : ℕ) (Ls : ℕ → Lists) : Type 0 where
  pub part_is : (i : ℕ) → Part parts i → (Ls i).part ≡ i
  pub first_is : (i : ℕ) → Part parts i → (Ls i).first ≡ X.first
  pub cells_are : (i : ℕ) → Part parts i → (Ls i).cells ≡ X.cells
  pub new_is : (i : ℕ) → Part parts i → (Ls i).new ≡ X.new
  pub owned_cell : (i : ℕ) → Part parts i → (l : ℕ) → 1 ≤ l → l ≤ (Ls i).owned → SchemeCell X ((Ls i).global l)
  pub owned_owner : (i : ℕ) → Part parts i → (l : ℕ) → 1 ≤ l → l ≤ (Ls i).owned → owner ((Ls i).global l) ≡ i
  pub holder : (i : ℕ) → Part parts i → (c : ℕ) → SchemeCell X c → owner c ≡ i → (l : ℕ) × (1 ≤ l) × (l ≤ (Ls i).owned) × ((Ls i).global l ≡ c)
  pub near_held : (i : ℕ) → Part parts i → (l : ℕ) → 1 ≤ l → l ≤ (Ls i).owned → All (λ e. (1 ≤ e.local) × (e.local ≤ (Ls i).held)) ((Ls i).reach l)
  pub near_is : (i : ℕ) → Part parts i → (l : ℕ) → 1 ≤ l → l ≤ (Ls i).owned → map (globally (Ls i)) ((Ls i).reach l) ≡ X.reach ((Ls i).global l)
  pub covered : (i : ℕ) → Part parts i → (l : ℕ) → 1 ≤ l → l ≤ (Ls i).held → (l ≤ (Ls i).owned) ⊎ Block (Ls i) l
  pub exported : (i : ℕ) → Part parts i → (j : ℕ) → 1 ≤ j → j ≤ most_parts → All (λ l. (1 ≤ l) × (l ≤ (Ls i).owned)) ((Ls i).exports j)
  pub agree : (i j t : ℕ) → Part parts i → Part parts j → t < (Ls i).imported j → (Ls i).global ((Ls i).before j + 1 + t) ≡ (Ls j).global (get_or ((Ls j).exports i) t 0)

-- the undivided depth of cell c after k rounds
abbrev pub Undivided : Scheme → Bytes → ℕ → ℕ → Bytes
Undivided X F k c = depth_in X (undivided X F k) c

-- ---- a state during a run

-- of a part whose lists are L, that stand in the bytes st before d, after rd rounds
module _ (X : Scheme) (F : Bytes) (L : Lists) (lists : Bytes) (changes rd : ℕ) where
  -- the depth of local cell l is the undivided one
  abbrev Right : Bytes → ℕ → Type 0
  Right b l = four b (depth_place changes l) ≡ Undivided X F rd (L.global l)

  pub record Good (b : Bytes) : Type 0 where
    pub place_is : dynamic b ≡ changes
    pub front_is : take changes b ≡ lists
    pub round_is : round_at b changes ≡ rd
    pub owned : (l : ℕ) → 1 ≤ l → l ≤ L.owned → Right b l
    pub took : (j t : ℕ) → 1 ≤ j → j ≤ most_parts → byte_at b (taken_place changes j) ≡ 1 → t < L.imported j → Right b (L.before j + 1 + t)

module _ (X : Scheme) (F : Bytes) (L : Lists) (lists : Bytes) (changes rd : ℕ) where
  -- a call that leaves what stands before d leaves the lists
  framed : (b b' : Bytes) → Room L changes b → Frame changes b b' → Good X F L lists changes rd b → (dynamic b' ≡ changes) × (take changes b' ≡ lists)
  framed b b' w f g =
      let h : changes ≤ length b = omega (arith, w.long) in
      (frame_dynamic changes b b' h f w.deep ∙ g.place_is, frame_take changes b b' h f ∙ g.front_is)

  -- ---- write

  pub write_good : (b : Bytes) (j : ℕ) → 1 ≤ j → j ≤ most_parts → Room L changes b → Good X F L lists changes rd b → Good X F L lists changes rd (written_in L changes b j)
  unfolding written_in
  write_good b j j_least j_most w g =
      let b' : Bytes = set b (written_place changes j) 1 in
      let fr : Frame changes b b' = record { same_length = length-set b _ 1; same = λ i h. get_or-set_other b (written_place changes j) i 1 0 (omega arith) } in
      let dp : (l : ℕ) → 1 ≤ l → four b' (depth_place changes l) ≡ four b (depth_place changes l) = λ l h. four_set b (written_place changes j) 1 (depth_place changes l) (inl (omega arith)) in
      let k = framed b b' w fr g in
      record {
        place_is = k.0;
        front_is = k.1;
        round_is = word_set b (written_place changes j) 1 changes (omega arith) (omega arith) ∙ g.round_is;
        owned = λ l h q. dp l h ∙ g.owned l h q;
        took = λ i t h q e p. dp _ (omega arith) ∙ g.took i t h q (sym (get_or-set_other b (written_place changes j) (taken_place changes i) 1 0 (omega arith)) ∙ e) p;
      }

-- ---- take

module _ (X : Scheme) (F : Bytes) (L : Lists) (lists : Bytes) (changes rd : ℕ) (b x : Bytes) (w : Room L changes b) (v : Taken L changes b x) (g : Good X F L lists changes rd b)
    (r : (t : ℕ) → t < count_in x → four x (depth_start t) ≡ Undivided X F (round_in x) (L.global (L.before (from_in x) + 1 + t))) where
  stored : (t : ℕ) → t < L.imported (from_in x) → Right X F L lists changes rd (taken_in L changes b x) (L.before (from_in x) + 1 + t)
  stored t h =
      take_in L changes b x w v t h
      ∙ r t (omega (arith, v.count_is))
      ∙ ap (λ n. Undivided X F n (L.global (L.before (from_in x) + 1 + t))) (v.now ∙ g.round_is)

  stays : (l : ℕ) → 1 ≤ l → Right X F L lists changes rd b l → Right X F L lists changes rd (taken_in L changes b x) l
  stays l one q = go (place (L.before (from_in x) + 1) (L.imported (from_in x)) l)
    where
      go : Place (L.before (from_in x) + 1) (L.imported (from_in x)) l → Right X F L lists changes rd (taken_in L changes b x) l
      go (below h) = take_below L changes b x w v l one h ∙ q
      go (inside t h p) = subst (λ n. Right X F L lists changes rd (taken_in L changes b x) n) (sym p) (stored t h)
      go (above h) = take_above L changes b x w v l one h ∙ q

  pub take_good : Good X F L lists changes rd (taken_in L changes b x)
  take_good =
      let k = framed X F L lists changes rd b (taken_in L changes b x) w (take_frame L changes b x w v) g in
      record {
        place_is = k.0;
        front_is = k.1;
        round_is = take_word L changes b x w v ∙ g.round_is;
        owned = λ l h q. stays l h (g.owned l h q);
        took = λ j t h q e p. go j t h q e p (eqb j (from_in x)) refl;
      }
    where
      go : (j t : ℕ) → 1 ≤ j → j ≤ most_parts → byte_at (taken_in L changes b x) (taken_place changes j) ≡ 1 → t < L.imported j → (y : Bool) → eqb j (from_in x) ≡ y
          → Right X F L lists changes rd (taken_in L changes b x) (L.before j + 1 + t)
      go j t h q e p true s =
          let same : j ≡ from_in x = eqb-true j (from_in x) s in
          subst (λ z. t < L.imported z → Right X F L lists changes rd (taken_in L changes b x) (L.before z + 1 + t)) (sym same) (λ p'. stored t p') p
      go j t h q e p false s =
          let ne : j ≢ from_in x = eqb-false j (from_in x) s in
          stays (L.before j + 1 + t) (omega arith)
          (g.took j t h q (sym (take_flag L changes b x w v (taken_place changes j) (omega arith) (omega arith)) ∙ e) p)

-- ---- messages

-- a message holds the undivided depths of its round, at the cells that its sender exports to its receiver, one for each
pub record RightMessage (X : Scheme) (F : Bytes) (parts : ℕ) (Ls : ℕ → Lists) (x : Bytes) : Type 0 where
  pub sender : Part parts (from_in x)
  pub receiver : Part most_parts (to_in x)
  pub long : length x ≡ message_size (count_in x)
  pub count : count_in x ≡ length ((Ls (from_in x)).exports (to_in x))
  pub depths : (t : ℕ) → t < count_in x → four x (depth_start t) ≡ Undivided X F (round_in x) ((Ls (from_in x)).global (get_or ((Ls (from_in x)).exports (to_in x)) t 0))

module _ (X : Scheme) (F : Bytes) (owner : ℕ → ℕ) (parts : ℕ) (Ls : ℕ → Lists) (S : Parted X owner parts Ls) (i : ℕ) (part : Part parts i) (lists : Bytes) (changes rd : ℕ) where
  pub write_right : (b : Bytes) (j : ℕ) → 1 ≤ j → j ≤ most_parts → Good X F (Ls i) lists changes rd b → RightMessage X F parts Ls (message_to (Ls i) changes b j)
  write_right b j j_least j_most g =
      let L : Lists = Ls i in
      let v = message_words L changes b j in
      let me : from_in (message_to (Ls i) changes b j) ≡ i = v.0 ∙ S.part_is i part in
      record {
        sender = subst (Part parts) (sym me) part;
        receiver = subst (Part most_parts) (sym v.1) (j_least, j_most);
        long = message_length L changes b j ∙ ap (λ n. message_size n) (sym v.3);
        count = v.3 ∙ sym (ap₂ (λ p n. length ((Ls p).exports n)) me v.1);
        depths = λ t h.
            let k : t < length ((Ls i).exports j) = omega (arith, v.3) in
            let q = All_get_or (λ l. (1 ≤ l) × (l ≤ (Ls i).owned)) ((Ls i).exports j) t 0 (S.exported i part j j_least j_most) k in
            message_depth L changes b j t k
            ∙ g.owned (get_or (L.exports j) t 0) q.0 q.1
            ∙ sym (ap₂ (Undivided X F) (v.2 ∙ g.round_is) (ap₂ (λ p n. (Ls p).global (get_or ((Ls p).exports n) t 0)) me v.1));
      }

-- ---- advance

-- the undivided round at one cell
pub undivided_at : (X : Scheme) (F : Bytes) (k c : ℕ) → ((own : Bytes) (os : List Old) → length own ≡ 4 → length (X.new own os) ≡ 4) → SchemeCell X c
    → Undivided X F (suc k) c ≡ X.new (Undivided X F k c) (olds_in X (undivided X F k) (X.reach c))
unfolding undivided round depth_in new_in
undivided_at X F k c new4 h =
    let g : Bytes = undivided X F k in
    let p : X.first + (c - X.first) ≡ c = omega arith in
    fours_at X.first X.cells (new_in X g) (λ j q. new4 _ _ (length_four g _)) (c - X.first) (omega arith)
    ∙ ap (λ x. new_in X g x) p

module _ (X : Scheme) (F : Bytes) (owner : ℕ → ℕ) (parts : ℕ) (Ls : ℕ → Lists) (S : Parted X owner parts Ls) (i : ℕ) (part : Part parts i) (lists : Bytes) (changes rd : ℕ)
    (b : Bytes) (g : Good X F (Ls i) lists changes rd b) (taken : (j : ℕ) → 1 ≤ j → j ≤ most_parts → 0 < (Ls i).imported j → byte_at b (taken_place changes j) ≡ 1) where
  -- where all imports are taken every held depth is the undivided one
  pub all_right : (l : ℕ) → 1 ≤ l → l ≤ (Ls i).held → Right X F (Ls i) lists changes rd b l
  all_right l h k =
      ⊎_elim
      (λ o. g.owned l h o)
      (λ c. subst (λ n. Right X F (Ls i) lists changes rd b n) (sym c.is)
      (g.took c.from c.at c.from_least c.from_most (taken c.from c.from_least c.from_most (omega (arith, c.at_lt))) c.at_lt))
      (S.covered i part l h k)

module _ (X : Scheme) (F : Bytes) (new4 : (own : Bytes) (os : List Old) → length own ≡ 4 → length (X.new own os) ≡ 4) (owner : ℕ → ℕ) (parts : ℕ) (Ls : ℕ → Lists) (S : Parted X owner parts Ls)
    (i : ℕ) (part : Part parts i) (lists : Bytes) (changes rd : ℕ) (b : Bytes) (w : Room (Ls i) changes b) (g : Good X F (Ls i) lists changes rd b)
    (taken : (j : ℕ) → 1 ≤ j → j ≤ most_parts → 0 < (Ls i).imported j → byte_at b (taken_place changes j) ≡ 1) where
  olds_right : (l : ℕ) → 1 ≤ l → l ≤ (Ls i).owned
      → map (λ e. record { layer = e.layer; depth = depth_at changes b e.local }) ((Ls i).reach l) ≡ olds_in X (undivided X F rd) (X.reach ((Ls i).global l))
  unfolding olds_in
  olds_right l h k =
      let old : Near → Old = λ e. record { layer = e.layer; depth = Undivided X F rd e.cell } in
      map_cong (λ e. record { layer = e.layer; depth = depth_at changes b e.local }) (λ e. old (globally (Ls i) e)) ((Ls i).reach l)
      (All_map ((Ls i).reach l)
      (λ e q. ap (λ x. record { layer = e.layer; depth = x }) (all_right X F owner parts Ls S i part lists changes rd b g taken e.local q.0 q.1))
      (S.near_held i part l h k))
      ∙ sym (map_map old (globally (Ls i)) ((Ls i).reach l))
      ∙ ap (map old) (S.near_is i part l h k)

  new_right : (l : ℕ) → 1 ≤ l → l ≤ (Ls i).owned → new_at (Ls i) changes b l ≡ Undivided X F (suc rd) ((Ls i).global l)
  unfolding new_at
  new_right l h k =
      ap (λ n. n (depth_at changes b l) (map (λ e. record { layer = e.layer; depth = depth_at changes b e.local }) ((Ls i).reach l))) (S.new_is i part)
      ∙ ap₂ X.new (g.owned l h k) (olds_right l h k)
      ∙ sym (undivided_at X F rd ((Ls i).global l) new4 (S.owned_cell i part l h k))

  new_four : (l : ℕ) → length (new_at (Ls i) changes b l) ≡ 4
  unfolding new_at
  new_four l = ap (λ n. length (n (depth_at changes b l) (map (λ e. record { layer = e.layer; depth = depth_at changes b e.local }) ((Ls i).reach l)))) (S.new_is i part) ∙ new4 _ _ (length_four b _)

  pub advance_good : Good X F (Ls i) lists changes (suc rd) (advanced_in (Ls i) changes b)
  advance_good =
      let k = framed X F (Ls i) lists changes rd b (advanced_in (Ls i) changes b) w (advance_frame (Ls i) changes b w new_four) g in
      record {
        place_is = k.0;
        front_is = k.1;
        round_is = advance_word (Ls i) changes b w new_four ∙ ap (λ n. n + 1) g.round_is ∙ add-one rd;
        owned = λ l h q. advance_owned (Ls i) changes b w new_four l h q ∙ new_right l h q;
        took = λ j t h q e p.
            let z : taken_place changes j ≡ changes + 2 + (j - 1) = omega arith in
            let n : ◌≡◌ {A = ℕ} 0 1 = sym (advance_flag (Ls i) changes b w new_four (j - 1) (omega arith)) ∙ ap (λ o. byte_at (advanced_in (Ls i) changes b) o) (sym z) ∙ e in
            let no : ⊥ = omega arith in absurd no;
      }
