-- The fields of a line of the journal (document 01, "Journal program"). A line is its bytes, without the newline.
-- Definitions only.
use Rattle.std.specs.Prelude.{Bool, cond, List, [], ◌∷◌, ℕ, eqb}
use Prim.Native.Char.{code}

abbrev pub is_tab : ℕ → Bool
is_tab b = eqb b (code "\t")

-- ---- "the reader takes a field and hands the rest of the line on as the part after the tab"

-- the first field: the bytes before the first tab, or all of them
unfoldable pub field : List ℕ → List ℕ
field [] = []
field (b ∷ l) = cond (is_tab b) [] (b ∷ field l)

-- the part after the first tab; nothing where there is none
unfoldable pub after_tab : List ℕ → List ℕ
after_tab [] = []
after_tab (b ∷ l) = cond (is_tab b) l (after_tab l)

-- ---- "fields parted by one tab": all fields of a line. An empty line has one, which is empty; a tab at the end makes
-- one more.

abbrev pub onto : ℕ → List (List ℕ) → List (List ℕ)
onto b [] = (b ∷ []) ∷ []
onto b (f ∷ fs) = (b ∷ f) ∷ fs

unfoldable pub fields : List ℕ → List (List ℕ)
fields [] = [] ∷ []
fields (b ∷ l) = cond (is_tab b) ([] ∷ fields l) (onto b (fields l))
