-- A raw value has one reading as addresses, and one as groups.
use Rattle.std.proofs.Common.{◌≡◌, ℕ, false, List, [], ◌∷◌, refl, sym, ap, ◌∙◌, subst, Option, None, Some}
use Rattle.std.specs.List.{AllZip, flat_map}
use Rattle.header_words.proofs.WordLemmas as words
use Rattle.header_addresses.specs.declared.address.Address.{Address}
use Rattle.header_addresses.specs.declared.address.Group.{Group}
use Rattle.mail_header.specs.RawForms.{raw_form}
use Rattle.header_tokens.specs.Tokens.{Spelled}
use Rattle.header_addresses.specs.Mailboxes.{Mailbox}
use Rattle.header_addresses.specs.AddressLists.{Grouped, groups_of}
use Rattle.header_addresses.specs.Names.{comment_text, phrase_text, IsCommentName, NoComment, OfComment, IsName, OfPhrase, NoPhrase, IsAddress, IsGroupName, NoName, Named}
use Rattle.mail_header.specs.WhiteEnd.{some_text}
use Rattle.header_addresses.specs.Names.{IsGroup, members_in, IsAddressesForm, IsGroupsForm, NoGroups, Groups}
use Rattle.header_addresses.proofs.AddresseeLemmas.{one_list}

pub zip_one : {A B : Type 0} (R : A → B → Type 0) → ((x : A) (y z : B) → R x y → R x z → y ≡ z) → (xs : List A) (ys zs : List B) → AllZip R xs ys → AllZip R xs zs → ys ≡ zs
zip_one R f [] [] [] g h = refl
zip_one R f [] [] (z ∷ zs) g h = absurd h
zip_one R f [] (y ∷ ys) zs g h = absurd g
zip_one R f (x ∷ xs) [] zs g h = absurd g
zip_one R f (x ∷ xs) (y ∷ ys) [] g h = absurd h
zip_one {A} {B} R f (x ∷ xs) (y ∷ ys) (z ∷ zs) g h = ap (λ (u : B). u ∷ ys) (f x y z g.0 h.0) ∙ ap (λ (u : List B). z ∷ u) (zip_one R f xs ys zs g.1 h.1)

one_comment_name : (c x y : Option (List ℕ)) → IsCommentName c x → IsCommentName c y → x ≡ y
one_comment_name _ _ _ NoComment NoComment = refl
one_comment_name _ _ _ (OfComment c s g) (OfComment _ t h) = ap some_text (words.one_text false (comment_text c) s t g h)

one_name : (m : Mailbox) (x y : Option (List ℕ)) → IsName m x → IsName m y → x ≡ y
one_name m _ _ (OfPhrase s e g) (OfPhrase t f h) = ap (λ (u : List ℕ). Some u) (words.one_text false (phrase_text m.phrase) s t g h)
one_name m _ _ (OfPhrase s e g) (NoPhrase y f h) = absurd cc
one_name m _ _ (NoPhrase x e g) (OfPhrase t f h) = absurd cc
one_name m _ _ (NoPhrase x e g) (NoPhrase y f h) = one_comment_name _ x y g h

pub one_address : (m : Mailbox) (a b : Address) → IsAddress m a → IsAddress m b → a ≡ b
one_address m a b g h =
    ap (λ (u : Option (List ℕ)). record { name = u; email = a.email }) (one_name m a.name b.name g.name h.name)
    ∙ ap (λ (u : List ℕ). record { name = b.name; email = u }) (g.email ∙ sym h.email)

one_group_name : (p : Option (List Spelled)) (x y : Option (List ℕ)) → IsGroupName p x → IsGroupName p y → x ≡ y
one_group_name _ _ _ NoName NoName = refl
one_group_name _ _ _ (Named p s g) (Named _ t h) = ap (λ (u : List ℕ). Some u) (words.one_text false (phrase_text p) s t g h)

one_group : (p : Grouped) (a b : Group) → IsGroup p a → IsGroup p b → a ≡ b
one_group p a b g h =
    ap (λ (u : Option (List ℕ)). record { name = u; members = a.members }) (one_group_name p.0 a.name b.name g.name h.name)
    ∙ ap (λ (u : List Address). record { name = b.name; members = u }) (zip_one IsAddress one_address p.1 a.members b.members g.members h.members)

-- two readings of a raw value as groups are the same
pub one_groups : (raw : List ℕ) (x y : Option (List Group)) → IsGroupsForm raw x → IsGroupsForm raw y → x ≡ y
one_groups raw _ _ (NoGroups n) (NoGroups k) = refl
one_groups raw _ _ (NoGroups n) (Groups who list l h) = absurd (n who l)
one_groups raw _ _ (Groups who list l h) (NoGroups n) = absurd (n who l)
one_groups raw _ _ (Groups who list l h) (Groups other rest k j) =
    ap (λ (u : List Group). Some u) (zip_one IsGroup one_group (groups_of other) list rest
    (subst (λ u. AllZip IsGroup (groups_of u) list) (one_list who other (raw_form raw) l k) h) j)

-- two readings of a raw value as addresses are the same
pub one_addresses : (raw : List ℕ) (x y : Option (List Address)) → IsAddressesForm raw x → IsAddressesForm raw y → x ≡ y
one_addresses raw None None g h = refl
one_addresses raw None (Some y) g h = let e = one_groups raw None (Some h.0) g h.1 in absurd cc
one_addresses raw (Some x) None g h = let e = one_groups raw None (Some g.0) h g.1 in absurd cc
one_addresses raw (Some x) (Some y) g h =
    let e = one_groups raw (Some g.0) (Some h.0) g.1 h.1 in
    let p : g.0 ≡ h.0 = cc in
    ap (λ (u : List Address). Some u) (g.2 ∙ ap (flat_map members_in) p ∙ sym h.2)
