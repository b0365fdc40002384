-- The mesh bytes, and the refusals 1 to 7. Assumes nothing.
--
-- "Word 0: d, from 1 to 3. Words 1 to 4: the counts for dimensions 0 to 3. Word 5: R, the count of records. Then N heads, one an element.
-- Then R records of two words: an element, and the index of the next record."
use Rattle.std.specs.Prelude.{Bool, true, false, not, ◌||◌, cond, List, [], ◌∷◌, map, ℕ, zero, suc, ◌+◌, ◌*◌, eqb, ltb, leb, length}
use Rattle.vocabulary.specs.Intervals.{picked, some, blocks}
use Rattle.vocabulary.specs.Lists.{is_in, repeats, some_of}
use Rattle.vocabulary.specs.Tests.{Test, refuse, first_of}
use Rattle.vocabulary.specs.Bytes.{Bytes}
use Rattle.layout.specs.Words.{word_at}
use Rattle.layout.specs.Answers.{answer}
use Rattle.layout.specs.Answers.{Answer}
use Rattle.layout.specs.Limits.{most_elements, most_records}

module _ (m : Bytes) where
  -- ---- the head

  -- d, the dimension of the cells. Standard term: topological dimension of the cells.
  abbrev pub top : ℕ
  top = word_at m 0

  -- how many elements have dimension k
  abbrev pub counted : ℕ → ℕ
  counted k = word_at m (k + 1)

  -- how many elements have a dimension below k. "They bear global numbers from 1: all of dimension 0 first, then 1, up to d": those of
  -- dimension k have the numbers after `below k`, up to `below (suc k)`.
  unfoldable pub below : ℕ → ℕ
  below zero = 0
  below (suc k) = below k + counted k

  -- N, the total. Standard term: the count of mesh entities.
  abbrev pub elements : ℕ
  elements = below 4

  -- R
  abbrev pub record_count : ℕ
  record_count = word_at m 5

  -- the number of the first cell (standard term: global index of the first top-dimensional entity), and the count of cells
  abbrev pub first_cell : ℕ
  first_cell = below top + 1

  abbrev pub cell_count : ℕ
  cell_count = counted top

  -- the dimension of an element: how many dimensions below d have all their elements before it
  unfoldable pub dimension : ℕ → ℕ
  dimension e = length (picked 1 top (λ k. ltb (below k) e))

  -- ---- heads, records, chains

  -- the first record of e's chain, or 0. Standard term: head of a singly linked list.
  abbrev pub head_of : ℕ → ℕ
  head_of e = word_at m (5 + e)

  -- "Records are indexed from 1"
  unfoldable pub element_in : ℕ → ℕ
  element_in i = word_at m (4 + elements + 2 * i)

  -- the record after i, or 0. Standard term: next node of a singly linked list.
  unfoldable pub next_of : ℕ → ℕ
  next_of i = word_at m (5 + elements + 2 * i)

  -- at most n records, from record i on, each the next of the one before: "zero ends a chain"
  unfoldable pub follow : ℕ → ℕ → List ℕ
  follow zero i = []
  follow (suc n) i = elim (eqb i 0) [ true ↦ [] | false ↦ i ∷ follow n (next_of i) ]

  -- the records of an element's chain. More than R of them would meet one twice, so one more than R is enough to tell.
  unfoldable pub records : ℕ → List ℕ
  records e = follow (record_count + 1) (head_of e)

  -- "The chain of an element names every element of lower dimension on its boundary, in any order."
  -- Standard term: the transitive closure (DMPlex), without the element itself.
  unfoldable pub chain : ℕ → List ℕ
  chain e = map element_in (records e)

  -- every element's records, one chain after another. "A record in no chain is ignored, its two words unread."
  unfoldable pub all_records : List ℕ
  all_records = blocks 1 elements records

  -- ---- refusals

  -- "Mesh under 12 bytes, or d not 1 to 3."
  unfoldable pub bad1 : Bool
  bad1 = ltb (length m) 12 || ltb top 1 || ltb 3 top

  -- the count of dimension k is above d and not zero, or up to d and zero
  unfoldable pub bad_count : ℕ → Bool
  bad_count k = cond (leb k top) (eqb (counted k) 0) (ltb 0 (counted k))

  -- "A count above d not zero; a count up to d zero; N over 2,000; R over 12,000."
  unfoldable pub bad2 : Bool
  bad2 = some 0 4 bad_count || ltb most_elements elements || ltb most_records record_count

  -- "Mesh length not exactly 2 × (6 + N + 2R)."
  unfoldable pub mesh_length : ℕ
  mesh_length = 2 * (6 + elements + 2 * record_count)

  unfoldable pub bad3 : Bool
  bad3 = not (eqb (length m) mesh_length)

  -- the element has a head
  unfoldable pub headed : ℕ → Bool
  headed e = ltb 0 (head_of e)

  -- "Head or next above R, a point with a head, or a record met twice." Points are the elements 1 to `counted 0`.
  unfoldable pub bad4 : Bool
  bad4 =
      some 1 (counted 0) headed
      || some_of all_records (ltb record_count)
      || repeats all_records

  -- g may not stand in the chain of e
  unfoldable pub bad_item : ℕ → ℕ → Bool
  bad_item e g = eqb g 0 || ltb elements g || leb (dimension e) (dimension g)

  -- something is wrong in the chain of e
  unfoldable pub bad_chain : ℕ → Bool
  bad_chain e = some_of (chain e) (bad_item e) || repeats (chain e)

  -- "A chain's element 0, above N, not of lower dimension, or twice in the chain."
  unfoldable pub bad5 : Bool
  bad5 = some 1 elements bad_chain

  -- some g in the chain of f is not in that of e
  unfoldable pub leaves : ℕ → ℕ → Bool
  leaves e f = some_of (chain f) (λ g. not (is_in g (chain e)))

  -- the chain of e is not closed
  unfoldable pub unclosed : ℕ → Bool
  unclosed e = some_of (chain e) (leaves e)

  -- "g in f's chain, f in e's, g not in e's."
  unfoldable pub bad6 : Bool
  bad6 = some 1 elements unclosed

  -- g is in no cell's chain
  unfoldable pub bare : ℕ → Bool
  bare g = not (some first_cell cell_count (λ c. is_in g (chain c)))

  -- "A lower element in no cell's chain."
  unfoldable pub bad7 : Bool
  bad7 = some 1 (below top) bare

  -- what is tried of a mesh after its sizes: its chains
  abbrev pub chain_tests : List Test
  chain_tests = refuse 4 bad4 ∷ refuse 5 bad5 ∷ refuse 6 bad6 ∷ refuse 7 bad7 ∷ []

  -- what every call that is given a mesh tries first: the sizes, and then the chains
  unfoldable pub mesh_tests : List Test
  mesh_tests = refuse 1 bad1 ∷ refuse 2 bad2 ∷ refuse 3 bad3 ∷ chain_tests

  unfoldable pub mesh_number : ℕ
  mesh_number = first_of mesh_tests

  -- the call that checks a mesh: it gives the count of cells
  unfoldable pub check_answer : Answer
  check_answer = answer mesh_number cell_count
