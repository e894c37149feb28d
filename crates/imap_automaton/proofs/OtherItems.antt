-- Items that are passed over, and the words that name others.
use Rattle.std.proofs.Common.{◌≡◌, ℕ, zero, suc, ◌<◌, true, false, List, [], ◌∷◌, ◌++◌, length, map, get_or, refl, sym, ap, subst, ◌∙◌, arith, inl, inr}
use Rattle.std.specs.Prelude.{Contains, nat_lt}
use Rattle.std.proofs.lemmas.Bool.{and_parts}
use Rattle.std.proofs.lemmas.List.{append-nil}
use Rattle.imap_keywords.specs.declared.key.Key.{Key}
use Rattle.imap_keywords.specs.declared.key.Key.TheVariants as key
use Rattle.imap_keywords.specs.declared.key.WordPlace.TheVariants as place
use Rattle.imap_automaton.specs.declared.sym.ItemName.{ItemName}
use Rattle.imap_automaton.specs.declared.sym.ItemName.TheVariants as name
use Rattle.imap_keywords.specs.Keys.{key_text, keys}
use Rattle.imap_automaton.specs.ItemNameRules.{may_end, name_from}
use Rattle.imap_automaton.specs.ItemNameLangs.{NameForm, NameRest}
use Rattle.imap_automaton.proofs.ItemNameEdges.{form_forth, takes_small, walk, goes_atom}
use Rattle.imap_automaton.specs.Langs.{WordRest}
use Rattle.imap_keywords.specs.Keys.{Among}
use Rattle.pushdown.proofs.Lists.{cons_head, cons_tail, Cut, cut, one_cut}
use Rattle.imap_automaton.proofs.Tests.{both}
use Rattle.imap_keywords.proofs.KeyLemmas.{is_key_octet, key_octets, key_octet_parts}
use Rattle.imap_types.specs.Octets.{is_atom, lower}
use Rattle.imap_types.specs.Texts.{Each}
use Rattle.imap_types.specs.ItemNames.{is_plain, IsFormed, told_names, IsOtherName}
use Rattle.imap_types.specs.Items as items

-- ---- keys

told_of : (k : Key) → Among k (keys place.Item) → Contains told_names (key_text k)
told_of k (inl e) = (0, omega arith, sym (ap key_text e))
told_of k (inr (inl e)) = (1, omega arith, sym (ap key_text e))
told_of k (inr (inr (inl e))) = (2, omega arith, sym (ap key_text e))
told_of k (inr (inr (inr (inl e)))) = (3, omega arith, sym (ap key_text e))
told_of k (inr (inr (inr (inr (inl e))))) = (4, omega arith, sym (ap key_text e))
told_of k (inr (inr (inr (inr (inr (inl e)))))) = (5, omega arith, sym (ap key_text e))
told_of k (inr (inr (inr (inr (inr (inr (inl e))))))) = (6, omega arith, sym (ap key_text e))
told_of k (inr (inr (inr (inr (inr (inr (inr (inl e)))))))) = (7, omega arith, sym (ap key_text e))
told_of k (inr (inr (inr (inr (inr (inr (inr (inr (inl e))))))))) = (8, omega arith, sym (ap key_text e))
told_of k (inr (inr (inr (inr (inr (inr (inr (inr (inr x))))))))) = elim x [ ]

told_key : (w : List ℕ) → Contains told_names w → (k : Key) × Among k (keys place.Item) × (w ≡ key_text k)
told_key w (zero, lt, e) = (key.Uid, inl refl, sym e)
told_key w (suc (zero), lt, e) = (key.Flags, inr (inl refl), sym e)
told_key w (suc (suc (zero)), lt, e) = (key.ModSeq, inr (inr (inl refl)), sym e)
told_key w (suc (suc (suc (zero))), lt, e) = (key.InternalDate, inr (inr (inr (inl refl))), sym e)
told_key w (suc (suc (suc (suc (zero)))), lt, e) = (key.Size, inr (inr (inr (inr (inl refl)))), sym e)
told_key w (suc (suc (suc (suc (suc (zero))))), lt, e) = (key.Header, inr (inr (inr (inr (inr (inl refl))))), sym e)
told_key w (suc (suc (suc (suc (suc (suc (zero)))))), lt, e) = (key.HeaderPart, inr (inr (inr (inr (inr (inr (inl refl)))))), sym e)
told_key w (suc (suc (suc (suc (suc (suc (suc (zero))))))), lt, e) = (key.Body, inr (inr (inr (inr (inr (inr (inr (inl refl))))))), sym e)
told_key w (suc (suc (suc (suc (suc (suc (suc (suc (zero)))))))), lt, e) = (key.BodyPart, inr (inr (inr (inr (inr (inr (inr (inr (inl refl)))))))), sym e)
told_key w (suc (suc (suc (suc (suc (suc (suc (suc (suc (i))))))))), lt, e) = absurd (omega (arith, lt))

key_ends : (k : Key) → may_end (name_from name.Plain (key_text k)) ≡ true
key_ends key.Uid = refl
key_ends _ = refl

key_atom : (c : ℕ) → is_key_octet (lower c) ≡ true → is_atom c ≡ true
key_atom c e = atom_of c (key_octet_parts (lower c) e).0
  where
    atom_of : (c : ℕ) → is_atom (lower c) ≡ true → is_atom c ≡ true
    atom_of c e = grind arith

key_atoms : (x y : List ℕ) → Each is_key_octet y → map lower x ≡ y → Each is_atom x
key_atoms [] y h e = tt
key_atoms (c ∷ x) [] h e = absurd cc
key_atoms (c ∷ x) (d ∷ y) h e =
    (key_atom c (ap is_key_octet (cons_head (lower c) d (map lower x) y e) ∙ h.0), key_atoms x y h.1 (cons_tail (lower c) d (map lower x) y e))

-- a word that is a key's has octets of an atom alone
pub named_atoms : (k : Key) (x : List ℕ) → map lower x ≡ key_text k → Each is_atom x
named_atoms k x e = key_atoms x (key_text k) (key_octets k) e

-- ---- from a word that is no key

plain_atom : (c : ℕ) → is_plain c ≡ true → is_atom c ≡ true
plain_atom c e = (and_parts (is_atom c) _ e).0

some_name : (name value word tail : List ℕ) → word ++ tail ≡ name ++ 32 ∷ value → Each is_atom word → 0 < length word → 0 < length name
some_name [] value [] tail e each some = absurd (omega (arith, some))
some_name [] value (c ∷ w) tail e each some = absurd (both (is_atom c) each.0 (ap is_atom (cons_head c 32 (w ++ tail) value e)))
some_name (d ∷ n) value word tail e each some = omega arith

formed : (n : List ℕ) → 0 < length n → NameForm name.Plain n → IsFormed n
formed n some (inl h) = inl (h, some)
formed n some (inr h) = inr h

-- where the first word is no key, a name, a space and a value are an item that is passed over
pub other_from : (t word tail : List ℕ) → t ≡ word ++ tail → Each is_atom word → 0 < length word → is_atom (get_or tail 0 0) ≡ false
    → ((k : Key) → Among k (keys place.Item) → map lower word ≡ key_text k → ⊥) → NameRest name.Plain t → items.IsItem items.Other t
other_from t word tail e each some longest no_key h =
    let same : word ++ tail ≡ h.rest ++ 32 ∷ h.value = sym e ∙ h.whole in
    record {
      name = h.rest;
      value = h.value;
      whole = h.whole;
      item = (
        (
          formed h.rest (some_name h.rest h.value word tail same each some) h.form,
          λ m.
              let k = told_key (map lower h.rest) m in
              let is : word ≡ h.rest = one_cut is_atom word tail h.rest (32 ∷ h.value) each longest (named_atoms k.0 h.rest k.2) refl same in
              no_key k.0 k.1 (ap (map lower) is ∙ k.2),
        ),
        h.value_is,
      );
    }

-- ---- to a word that is no key

form_of : (n : List ℕ) → IsFormed n → NameForm name.Plain n
form_of n (inl h) = inl h.0
form_of n (inr h) = inr h

first_atom : (n x : List ℕ) → IsFormed n → is_atom (get_or (n ++ x) 0 0) ≡ true
first_atom [] x (inl h) = absurd (omega (arith, h.1))
first_atom (c ∷ n) x (inl h) = plain_atom c h.0.0
first_atom n x (inr h) = ap (λ (u : List ℕ). is_atom (get_or (u ++ x) 0 0)) h.whole ∙ by h.front h.first
  where
    by : (f : List ℕ) → Each is_plain f → is_atom (get_or ((f ++ h.back) ++ x) 0 0) ≡ true
    by [] each = ap (λ (u : List ℕ). is_atom (get_or (u ++ x) 0 0)) h.second.whole
    by (c ∷ f) each = plain_atom c each.0

nothing_left : (s : ItemName) (rest tail v : List ℕ) → may_end s ≡ true → NameForm s rest → tail ≡ rest ++ 32 ∷ v → is_atom (get_or tail 0 0) ≡ false → rest ≡ []
nothing_left s [] tail v m h e out = refl
nothing_left s (c ∷ rest) tail v m h e out = absurd (both (is_atom c) (goes_atom s c rest m h) (sym (ap (λ (u : List ℕ). is_atom (get_or u 0 0)) e) ∙ out))

no_key : (n v word tail : List ℕ) → IsOtherName n → word ++ tail ≡ n ++ 32 ∷ v → Each is_atom word → is_atom (get_or tail 0 0) ≡ false → (k : Key) → Among k (keys place.Item)
    → map lower word ≡ key_text k → ⊥
no_key n v word tail h e each out k m is =
    let w = walk word name.Plain n tail v each e (form_of n h.0) in
    let form = subst (λ (u : List ℕ). NameForm (name_from name.Plain u) w.rest) is w.form in
    let none = nothing_left (name_from name.Plain (key_text k)) w.rest tail v (key_ends k) form w.back out in
    let whole : n ≡ word = w.whole ∙ ap (λ (u : List ℕ). word ++ u) none ∙ append-nil word in
    h.1 (subst (Contains told_names) (sym (ap (map lower) whole ∙ is)) (told_of k m))

cut_some : (t : List ℕ) (c : Cut is_atom t) → is_atom (get_or t 0 0) ≡ true → 0 < length c.front
cut_some t c e = by c.front c.whole
  where
    by : (f : List ℕ) → t ≡ f ++ c.back → 0 < length f
    by [] whole = absurd (both (is_atom (get_or t 0 0)) e (ap (λ (u : List ℕ). is_atom (get_or u 0 0)) whole ∙ c.longest))
    by (d ∷ f) whole = omega arith

-- the word with which an item begins that is passed over
pub record OtherWord (t : List ℕ) : Type 0 where
  pub word : List ℕ
  pub tail : List ℕ
  pub whole : t ≡ word ++ tail
  pub each : Each is_atom word
  pub some : 0 < length word
  pub longest : is_atom (get_or tail 0 0) ≡ false
  pub small : nat_lt (get_or tail 0 0) 256 ≡ true
  pub goes_on : 0 < length tail
  pub no_key : (k : Key) → Among k (keys place.Item) → map lower word ≡ key_text k → ⊥

quote_or_small : (s : ItemName) (c : ℕ) (t : List ℕ) → NameForm s (c ∷ t) → nat_lt c 256 ≡ true
quote_or_small s c t h = elim (form_forth s c t h) [ inl q ↦ ap (λ (d : ℕ). nat_lt d 256) q.1 | inr g ↦ takes_small s c g.0 ]

rest_small : (s : ItemName) (rest v tail : List ℕ) → NameForm s rest → tail ≡ rest ++ 32 ∷ v → (nat_lt (get_or tail 0 0) 256 ≡ true) × (0 < length tail)
rest_small s [] v tail h e = (ap (λ (u : List ℕ). nat_lt (get_or u 0 0) 256) e, (let l = ap length e in omega (arith, l)))
rest_small s (c ∷ rest) v tail h e = (ap (λ (u : List ℕ). nat_lt (get_or u 0 0) 256) e ∙ quote_or_small s c rest h, (let l = ap length e in omega (arith, l)))

-- an item that is passed over begins with a word that is no key
pub other_word : (t : List ℕ) → items.IsItem items.Other t → OtherWord t
other_word t h =
    let c = cut is_atom t refl in
    let n = h.item.0 in
    let first : is_atom (get_or t 0 0) ≡ true = ap (λ (u : List ℕ). is_atom (get_or u 0 0)) h.whole ∙ first_atom h.name (32 ∷ h.value) n.0 in
    let w = walk c.front name.Plain h.name c.back h.value c.each (sym c.whole ∙ h.whole) (form_of h.name n.0) in
    let r = rest_small (name_from name.Plain (map lower c.front)) w.rest h.value c.back w.form w.back in
    record {
      word = c.front;
      tail = c.back;
      whole = c.whole;
      each = c.each;
      some = cut_some t c first;
      longest = c.longest;
      small = r.0;
      goes_on = r.1;
      no_key = λ k m is. no_key h.name h.value c.front c.back n (sym c.whole ∙ h.whole) c.each c.longest k m is;
    }

-- an item that is passed over is read by the automaton from its word on
pub other_to : (t : List ℕ) → items.IsItem items.Other t → WordRest place.Item [] t
other_to t h =
    let o = other_word t h in
    let some = o.some in
    record {
      word = o.word;
      tail = o.tail;
      whole = o.whole;
      each = o.each;
      some = omega (arith, some);
      longest = o.longest;
      says = inr (o.no_key, record { rest = h.name; value = h.value; whole = h.whole; form = form_of h.name h.item.0.0; value_is = h.item.1 });
    }
