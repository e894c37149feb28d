-- Values in which no number has a fraction.
use Rattle.std.proofs.Common.{◌≡◌, ◌∙◌, ℕ, Bool, true, false, ◌||◌, refl, ap, List, [], ◌∷◌, Option, Some, None, map, Ordering, Less, Equal, Greater, nat_cmp}
use Rattle.std.specs.Ordering.{match_ordering}
use Rattle.std.specs.Cmp.Lexicographic.{slice_cmp}
use Rattle.serde_json.specs.Data.{Data, Members, no_members, member, put}
use Rattle.serde_json.specs.View.{items_of}
use Rattle.serde_json.specs.Written.{has_float, items_have_float, members_have_float}
use Rattle.json_texts.specs.Texts.{optional_text}

-- where nothing that is made of an element has a fraction, a list of it has none
pub items_whole : {A : Type 0} (f : A → Data) (xs : List A) → ((x : A) → has_float (f x) ≡ false) → items_have_float (items_of (map f xs)) ≡ false
items_whole f [] h = refl
items_whole f (x ∷ xs) h = ap (λ b. b || items_have_float (items_of (map f xs))) (h x) ∙ items_whole f xs h

-- neither a text nor null has a fraction
pub text_whole : (t : Option (List ℕ)) → has_float (optional_text t) ≡ false
text_whole None = refl
text_whole (Some t) = refl

-- ---- members

member_whole : (d : Data) (ms : Members) → has_float d ≡ false → members_have_float ms ≡ false → (has_float d || members_have_float ms) ≡ false
member_whole d ms h k = ap (λ (t : Bool). t || members_have_float ms) h ∙ k

left_whole : (a c : Bool) → (a || c) ≡ false → a ≡ false
left_whole true c h = h
left_whole false c h = refl

right_whole : (a c : Bool) → (a || c) ≡ false → c ≡ false
right_whole true c h = absurd (let e = h in cc)
right_whole false c h = h

by_order : (o : Ordering) (x y z : Members) → members_have_float x ≡ false → members_have_float y ≡ false → members_have_float z ≡ false
    → members_have_float (match_ordering o x y z) ≡ false
by_order Less x y z f g h = f
by_order Equal x y z f g h = g
by_order Greater x y z f g h = h

-- a member that is put brings no fraction in
pub put_whole : (k : List ℕ) (d : Data) (ms : Members) → has_float d ≡ false → members_have_float ms ≡ false → members_have_float (put k d ms) ≡ false
put_whole k d no_members h g = member_whole d no_members h refl
put_whole k d (member l e ms) h g =
    let one = left_whole (has_float e) (members_have_float ms) g in
    let rest = right_whole (has_float e) (members_have_float ms) g in
    by_order (slice_cmp nat_cmp k l) _ _ _ (member_whole d (member l e ms) h g) (member_whole d ms h rest) (member_whole e (put k d ms) one (put_whole k d ms h rest))
