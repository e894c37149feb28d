-- Mailboxes that are read one after another.
use Rattle.std.proofs.Common.{◌≡◌, ℕ, List, [], ◌∷◌, ◌++◌, Bool, true, false, IsTrue, Option, Some, None, option_map, refl, sym, ap, ◌∙◌, subst}
use Rattle.std.specs.Prelude.{◌↔◌, option_and_then, is_none, bytes_eq}
use Rattle.std.proofs.lemmas.Bool.{and_parts}
use Rattle.std.proofs.lemmas.Slice.Eq.{bytes_eq-Decides}
use Rattle.header_addresses.specs.declared.address.Address.{Address}
use Rattle.header_addresses.specs.Names.{IsAddressesForm}
use Rattle.header_addresses.proofs.FormLemmas.{one_addresses}
use Rattle.serde_json.specs.Data.{Data, Items, item}
use Rattle.mail_drafts.specs.Mailboxes.{unnamed, ReadsAlone}
use Rattle.draft_reading.specs.Mailboxes.{Named, named_in, AreAlone}
use Rattle.draft_reading.specs.Values.{each_in}
use Rattle.draft_reading.specs.reading.Addresses.{are_unnamed, IsMailbox, IsNoMailbox, AreNoMailboxes}
use Rattle.draft_reading.proofs.ItemLemmas.{IsSoFar, so_far_more, so_far_none}

-- ---- whether an email reads alone

unnamed_is : (list : List Address) (email : List ℕ) → are_unnamed list email ≡ true → list ≡ unnamed email
unnamed_is [] email e = absurd (cc)
unnamed_is (a ∷ []) email e =
    let p = and_parts (is_none a.name) (bytes_eq a.email email) e in
    ap (λ (x : Address). x ∷ []) (by a.name a.email (no_name a.name p.0) ((bytes_eq-Decides a.email email).0 p.1))
  where
    no_name : (o : Option (List ℕ)) → is_none o ≡ true → o ≡ None
    no_name None is = refl
    no_name (Some name) is = absurd (cc)

    made : Option (List ℕ) → List ℕ → Address
    made name text = record { name = name; email = text }

    by : (name : Option (List ℕ)) (text : List ℕ) → name ≡ None → text ≡ email → made name text ≡ made None email
    by name text f g = ap (λ (o : Option (List ℕ)). made o text) f ∙ ap (λ (t : List ℕ). made None t) g
unnamed_is (a ∷ b ∷ list) email e = absurd (cc)

is_unnamed : (email : List ℕ) → are_unnamed (unnamed email) email ≡ true
is_unnamed email = (bytes_eq-Decides email email).1 refl

-- no address is read
pub none_alone : (email : List ℕ) → IsAddressesForm email None → IsTrue false ↔ ReadsAlone email
none_alone email none = (λ (e : false ≡ true). absurd (cc), λ alone. let e : None ≡ Some (unnamed email) = one_addresses email None (Some (unnamed email)) none alone in absurd (cc))

-- these are read
pub some_alone : (email : List ℕ) (list : List Address) (b : Bool) → IsAddressesForm email (Some list) → b ≡ are_unnamed list email → IsTrue b ↔ ReadsAlone email
some_alone email list b some is = (
  λ e. subst (λ (x : List Address). IsAddressesForm email (Some x)) (unnamed_is list email (sym is ∙ e)) some,
  λ alone.
      let e : Some list ≡ Some (unnamed email) = one_addresses email (Some list) (Some (unnamed email)) some alone in
      let same : list ≡ unnamed email = cc in
      is ∙ ap (λ (x : List Address). are_unnamed x email) same ∙ is_unnamed email,
)

-- ---- emails that read alone

alone_among : (done : List Named) (n : Named) (rest : List Named) → AreAlone (done ++ n ∷ rest) → ReadsAlone n.email
alone_among [] n rest a = a.0
alone_among (m ∷ done) n rest a = alone_among done n rest a.1

alone_more : (done : List Named) (n : Named) → AreAlone done → ReadsAlone n.email → AreAlone (done ++ n ∷ [])
alone_more [] n a is = (is, tt)
alone_more (m ∷ done) n a is = (a.0, alone_more done n a.1 is)

-- a value that isn't a mailbox's among the items
pub no_mailboxes : (all : Items) (done : List Named) (d : Data) (left : Items) → IsSoFar named_in all done (item d left) → IsNoMailbox d → AreNoMailboxes all
no_mailboxes all done d left so no_one list a = by (named_in d) refl (each_in named_in left) refl
  where
    by : (o : Option Named) → named_in d ≡ o → (p : Option (List Named)) → each_in named_in left ≡ p → ⊥
    by None is p are = absurd (let e : None ≡ Some list = sym (so_far_none named_in all done d left so is) ∙ a.typed in cc)
    by (Some n) is None are =
        let none : each_in named_in all ≡ None = so ∙ ap (λ (o : Option Named). option_map (λ (xs : List Named). done ++ xs) (option_and_then (λ (y : Named). option_map (λ (ys : List Named). y ∷ ys) (each_in named_in left)) o)) is
        ∙ ap (λ (p : Option (List Named)). option_map (λ (xs : List Named). done ++ xs) (option_map (λ (ys : List Named). n ∷ ys) p)) are in
        absurd (let e : None ≡ Some list = sym none ∙ a.typed in cc)
    by (Some n) is (Some ns) are =
        let some : each_in named_in all ≡ Some (done ++ n ∷ ns) = so ∙ ap (λ (o : Option Named). option_map (λ (xs : List Named). done ++ xs) (option_and_then (λ (y : Named). option_map (λ (ys : List Named). y ∷ ys) (each_in named_in left)) o)) is
        ∙ ap (λ (p : Option (List Named)). option_map (λ (xs : List Named). done ++ xs) (option_map (λ (ys : List Named). n ∷ ys) p)) are in
        let same : list ≡ done ++ n ∷ ns = let e : Some list ≡ Some (done ++ n ∷ ns) = sym a.typed ∙ some in cc in
        no_one n (record { typed = is; alone = alone_among done n ns (subst (λ (ms : List Named). AreAlone ms) same a.alone) })

pub record ReadSoFar (all : Items) (done : List Named) (left : Items) : Type 0 where
  pub typed : IsSoFar named_in all done left
  pub alone : AreAlone done

-- a mailbox more
pub mailbox_more : (all : Items) (done new : List Named) (d : Data) (left : Items) (n : Named) → ReadSoFar all done (item d left) → IsMailbox d n → new ≡ done ++ n ∷ []
    → ReadSoFar all new left
mailbox_more all done new d left n so is same =
    let P : List Named → Type 0 = λ ms. ReadSoFar all ms left in
    subst P (sym same) (record { typed = so_far_more named_in all done d left n so.typed is.typed; alone = alone_more done n so.alone is.alone })
