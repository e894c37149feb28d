-- What lines are to a multipart.
use Rattle.std.proofs.Common.{◌≡◌, ◌≢◌, ℕ, Bool, true, false, List, [], ◌∷◌, ◌++◌, length, take, drop, cond, refl, sym, ap, ◌∙◌, Option, Some, None, subst}
use Rattle.std.specs.List.{list_all}
use Rattle.std.specs.Str.{bytes_eq}
use Rattle.std.proofs.lemmas.List.{take-append-drop, take_at, append_cancel_left}
use Rattle.std.proofs.lemmas.Slice.Eq.{bytes_eq-Decides}
use Rattle.text_words.specs.Cuts.{Each}
use Rattle.text_words.specs.Octets.{is_white}
use Rattle.text_words.proofs.CutLemmas.{each_list_all, list_all_each}
use Rattle.mime_tree.specs.declared.split.Mark.{Mark}
use Rattle.mime_tree.specs.declared.split.Mark.TheVariants as mark
use Rattle.mime_tree.specs.Delimiters.{IsDelimiter, IsClosing, IsMarked}
use Rattle.mime_tree.specs.reading.LineReading.{behind, behind_dashes, closing_mark, rest_mark, line_mark}

-- the text begins with the prefix, or with no text after it
data Behind (p t : List ℕ) : Option (List ℕ) → Type 0 where
  Begins : (r : List ℕ) → t ≡ p ++ r → Behind p t (Some r)
  BeginsNot : ((r : List ℕ) → t ≢ p ++ r) → Behind p t None

behind_is : (p t : List ℕ) → Behind p t (behind p t)
behind_is p t = by (bytes_eq (take (length p) t) p) refl
  where
    by : (q : Bool) → bytes_eq (take (length p) t) p ≡ q → Behind p t (cond q (Some (drop (length p) t)) None)
    by true e = Begins (drop (length p) t) (sym (take-append-drop (length p) t) ∙ ap (λ (u : List ℕ). u ++ drop (length p) t) ((bytes_eq-Decides (take (length p) t) p).0 e))
    by false e = BeginsNot (λ r w. let q = (bytes_eq-Decides (take (length p) t) p).1 (ap (take (length p)) w ∙ take_at p r (length p) refl) in absurd cc)

whites_same : (u w : List ℕ) → Each is_white w → list_all is_white u ≡ false → u ≢ w
whites_same u w e f g = let t = each_list_all is_white w e in let h = ap (list_all is_white) g in absurd cc

-- by what stands after the boundary
rest_marked : (y l u : List ℕ) → l ≡ 45 ∷ 45 ∷ (y ++ u) → IsMarked y l (rest_mark (Some u))
rest_marked y l u e = opens (list_all is_white u) refl
  where
    same : (w : List ℕ) → l ≡ 45 ∷ 45 ∷ (y ++ w) → u ≡ w
    same w f = let g = sym e ∙ f in append_cancel_left y u w cc

    closing : (q : Bool) (v : List ℕ) → list_all is_white v ≡ q → list_all is_white u ≡ false → u ≡ 45 ∷ 45 ∷ v → IsMarked y l (cond q mark.Closes mark.Plain)
    closing true v f n w = record { white = v; whole = e ∙ ap (λ (x : List ℕ). 45 ∷ 45 ∷ (y ++ x)) w; is_white = list_all_each is_white v f }
    closing false v f n w = (
      λ d. whites_same u d.white d.is_white n (same d.white d.whole),
      λ c. let g = sym w ∙ same (45 ∷ 45 ∷ c.white) c.whole in whites_same v c.white c.is_white f cc,
    )

    closes_by : (r : Option (List ℕ)) → Behind (45 ∷ 45 ∷ []) u r → list_all is_white u ≡ false → IsMarked y l (closing_mark r)
    closes_by _ (Begins v w) n = closing (list_all is_white v) v refl n w
    closes_by _ (BeginsNot k) n = (λ d. whites_same u d.white d.is_white n (same d.white d.whole), λ c. k c.white (same (45 ∷ 45 ∷ c.white) c.whole))

    opens : (q : Bool) → list_all is_white u ≡ q → IsMarked y l (cond q mark.Opens (closing_mark (behind (45 ∷ 45 ∷ []) u)))
    opens true f = record { white = u; whole = e; is_white = list_all_each is_white u f }
    opens false f = closes_by (behind (45 ∷ 45 ∷ []) u) (behind_is (45 ∷ 45 ∷ []) u) f

-- the mark that is computed of a line is its mark
pub marked : (y l : List ℕ) → IsMarked y l (line_mark y l)
unfolding line_mark
marked y l = by (behind (45 ∷ 45 ∷ []) l) (behind_is (45 ∷ 45 ∷ []) l)
  where
    boundary : (t : List ℕ) (r : Option (List ℕ)) → l ≡ 45 ∷ 45 ∷ t → Behind y t r → IsMarked y l (rest_mark r)
    boundary t _ e (Begins u w) = rest_marked y l u (e ∙ ap (λ (x : List ℕ). 45 ∷ 45 ∷ x) w)
    boundary t _ e (BeginsNot k) = (λ d. k d.white (let g = sym e ∙ d.whole in cc), λ c. k (45 ∷ 45 ∷ c.white) (let g = sym e ∙ c.whole in cc))

    by : (r : Option (List ℕ)) → Behind (45 ∷ 45 ∷ []) l r → IsMarked y l (rest_mark (behind_dashes y r))
    by _ (Begins t w) = boundary t (behind y t) w (behind_is y t)
    by _ (BeginsNot k) = (λ d. k (y ++ d.white) d.whole, λ c. k (y ++ 45 ∷ 45 ∷ c.white) c.whole)

-- no delimiter line is a closing line
pub opens_closes : (y l : List ℕ) → IsDelimiter y l → IsClosing y l → ⊥
opens_closes y l d c =
    let g = sym d.whole ∙ c.whole in
    let w : d.white ≡ 45 ∷ 45 ∷ c.white = append_cancel_left y d.white (45 ∷ 45 ∷ c.white) cc in
    let P : List ℕ → Type 0 = λ u. Each is_white u in
    let e = subst P w d.is_white in
    let f = e.0 in
    absurd cc

-- a line is marked in one way
pub one_mark : (y l : List ℕ) (m n : Mark) → IsMarked y l m → IsMarked y l n → m ≡ n
one_mark y l mark.Plain mark.Plain g h = refl
one_mark y l mark.Plain mark.Opens g h = absurd (g.0 h)
one_mark y l mark.Plain mark.Closes g h = absurd (g.1 h)
one_mark y l mark.Opens mark.Plain g h = absurd (h.0 g)
one_mark y l mark.Opens mark.Opens g h = refl
one_mark y l mark.Opens mark.Closes g h = absurd (opens_closes y l g h)
one_mark y l mark.Closes mark.Plain g h = absurd (h.1 g)
one_mark y l mark.Closes mark.Opens g h = absurd (opens_closes y l h g)
one_mark y l mark.Closes mark.Closes g h = refl

-- between the mark as a function and as a fact
pub mark_is : (y l : List ℕ) (m : Mark) → line_mark y l ≡ m → IsMarked y l m
mark_is y l m e = let P : Mark → Type 0 = λ x. IsMarked y l x in subst P e (marked y l)

-- the mark of a line is the one that is computed
pub is_mark : (y l : List ℕ) (m : Mark) → IsMarked y l m → line_mark y l ≡ m
is_mark y l m h = one_mark y l (line_mark y l) m (marked y l) h
