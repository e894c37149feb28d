-- The words by which a reader decides: no two have one text, and a search for one finds it.
use Rattle.std.proofs.Common.{◌≡◌, ℕ, zero, suc, ◌+◌, ◌<◌, ◌≤◌, Bool, true, false, not, ◌&&◌, List, [], ◌∷◌, ◌++◌, length, map, take, drop, get_or, cond, Some, None, refl, sym, ap}
use Rattle.std.proofs.Common.{subst, ◌∙◌, arith, inl, inr, bytes_eq}
use Rattle.std.specs.Prelude.{◌==◌, nat_lt, find, unwrap_or}
use Rattle.std.proofs.lemmas.Bool.{eqb-true, ltb-true, and_parts, and_from, lt-ltb, eq-eqb, or_cases, or_left, or_right, not-true}
use Rattle.std.proofs.lemmas.List.{length-take-le, take-append-drop}
use Rattle.std.proofs.lemmas.Slice.Eq.{bytes_eq-Decides}
use Rattle.std.proofs.lemmas.Grind.{common_steps}
use Rattle.std.proofs.Math.Seq.{take-length}
use Rattle.imap_types.proofs.EachLemmas.{each_to, each_parts}
use Rattle.imap_keywords.specs.declared.key.Key.{Key}
use Rattle.imap_keywords.specs.declared.key.Key.TheVariants as key
use Rattle.imap_keywords.specs.declared.key.WordPlace.{WordPlace}
use Rattle.imap_keywords.specs.declared.key.WordPlace.TheVariants as place
use Rattle.imap_keywords.specs.Keys.{key_text, keys, goes_on, is_whole, is_among, in_word, Among}
use Rattle.imap_keywords.proofs.Classes.{atom_apart}
use Rattle.imap_types.specs.Octets.{is_word, is_atom, lower}
use Rattle.imap_types.specs.Texts.{Each}

-- ---- texts of keys

abbrev key_named : List ℕ → Key
key_named t =
    unwrap_or
    (find (λ k. bytes_eq (key_text k) t)
    (key.Ok ∷ key.No ∷ key.Bad ∷ key.Preauth ∷ key.Bye ∷ key.Capability ∷ key.Enabled ∷ key.Vanished ∷ key.List ∷ key.Status ∷ key.Exists ∷ key.Expunge ∷ key.Fetch ∷ key.Uid ∷
    key.Flags ∷ key.ModSeq ∷ key.Size ∷ key.InternalDate ∷ key.Header ∷ key.HeaderPart ∷ key.Body ∷ key.BodyPart ∷ key.Jan ∷ key.Feb ∷ key.Mar ∷ key.Apr ∷ key.May ∷ key.Jun ∷
    key.Jul ∷ key.Aug ∷ key.Sep ∷ key.Oct ∷ key.Nov ∷ key.Dec ∷ [])) key.Ok

named : (k : Key) → key_named (key_text k) ≡ k
named key.Ok = refl
named key.No = refl
named key.Bad = refl
named key.Preauth = refl
named key.Bye = refl
named key.Capability = refl
named key.Enabled = refl
named key.Vanished = refl
named key.List = refl
named key.Status = refl
named key.Exists = refl
named key.Expunge = refl
named key.Fetch = refl
named key.Uid = refl
named key.Flags = refl
named key.ModSeq = refl
named key.Size = refl
named key.InternalDate = refl
named key.Header = refl
named key.HeaderPart = refl
named key.Body = refl
named key.BodyPart = refl
named key.Jan = refl
named key.Feb = refl
named key.Mar = refl
named key.Apr = refl
named key.May = refl
named key.Jun = refl
named key.Jul = refl
named key.Aug = refl
named key.Sep = refl
named key.Oct = refl
named key.Nov = refl
named key.Dec = refl

-- keys of the same text are the same key
pub one_key : (a b : Key) → key_text a ≡ key_text b → a ≡ b
one_key a b e = sym (named a) ∙ ap key_named e ∙ named b

-- an octet of a key: an atom's, in lower case, and neither `!` nor `-`
abbrev pub is_key_octet : ℕ → Bool
is_key_octet c = is_atom c && (lower c == c) && not (c == 33) && not (c == 45)

-- each octet of a key's text is an atom's, in lower case, and neither `!` nor `-`
pub key_octets : (k : Key) → Each is_key_octet (key_text k)
key_octets key.Ok = (refl, (refl, tt))
key_octets key.No = (refl, (refl, tt))
key_octets key.Bad = (refl, (refl, (refl, tt)))
key_octets key.Preauth = (refl, (refl, (refl, (refl, (refl, (refl, (refl, tt)))))))
key_octets key.Bye = (refl, (refl, (refl, tt)))
key_octets key.Capability = (refl, (refl, (refl, (refl, (refl, (refl, (refl, (refl, (refl, (refl, tt))))))))))
key_octets key.Enabled = (refl, (refl, (refl, (refl, (refl, (refl, (refl, tt)))))))
key_octets key.Vanished = (refl, (refl, (refl, (refl, (refl, (refl, (refl, (refl, tt))))))))
key_octets key.List = (refl, (refl, (refl, (refl, tt))))
key_octets key.Status = (refl, (refl, (refl, (refl, (refl, (refl, tt))))))
key_octets key.Exists = (refl, (refl, (refl, (refl, (refl, (refl, tt))))))
key_octets key.Expunge = (refl, (refl, (refl, (refl, (refl, (refl, (refl, tt)))))))
key_octets key.Fetch = (refl, (refl, (refl, (refl, (refl, tt)))))
key_octets key.Uid = (refl, (refl, (refl, tt)))
key_octets key.Flags = (refl, (refl, (refl, (refl, (refl, tt)))))
key_octets key.ModSeq = (refl, (refl, (refl, (refl, (refl, (refl, tt))))))
key_octets key.InternalDate = (refl, (refl, (refl, (refl, (refl, (refl, (refl, (refl, (refl, (refl, (refl, (refl, tt))))))))))))
key_octets key.Header = (refl, (refl, (refl, (refl, (refl, (refl, (refl, (refl, (refl, (refl, (refl, (refl, tt))))))))))))
key_octets key.HeaderPart = (refl, (refl, (refl, (refl, (refl, (refl, (refl, (refl, (refl, (refl, (refl, (refl, (refl, (refl, (refl, tt)))))))))))))))
key_octets key.Body = (refl, (refl, (refl, (refl, (refl, (refl, tt))))))
key_octets key.BodyPart = (refl, (refl, (refl, (refl, (refl, (refl, (refl, (refl, (refl, tt)))))))))
key_octets key.Jan = (refl, (refl, (refl, tt)))
key_octets key.Feb = (refl, (refl, (refl, tt)))
key_octets key.Mar = (refl, (refl, (refl, tt)))
key_octets key.Apr = (refl, (refl, (refl, tt)))
key_octets key.May = (refl, (refl, (refl, tt)))
key_octets key.Jun = (refl, (refl, (refl, tt)))
key_octets key.Jul = (refl, (refl, (refl, tt)))
key_octets key.Aug = (refl, (refl, (refl, tt)))
key_octets key.Sep = (refl, (refl, (refl, tt)))
key_octets key.Oct = (refl, (refl, (refl, tt)))
key_octets key.Nov = (refl, (refl, (refl, tt)))
key_octets key.Dec = (refl, (refl, (refl, tt)))
key_octets key.Size = (refl, (refl, (refl, (refl, (refl, (refl, (refl, (refl, (refl, (refl, (refl, tt)))))))))))

-- the text of a key isn't empty
pub key_some : (k : Key) → 0 < length (key_text k)
key_some key.Ok = omega arith
key_some key.No = omega arith
key_some key.Bad = omega arith
key_some key.Preauth = omega arith
key_some key.Bye = omega arith
key_some key.Capability = omega arith
key_some key.Enabled = omega arith
key_some key.Vanished = omega arith
key_some key.List = omega arith
key_some key.Status = omega arith
key_some key.Exists = omega arith
key_some key.Expunge = omega arith
key_some key.Fetch = omega arith
key_some key.Uid = omega arith
key_some key.Flags = omega arith
key_some key.ModSeq = omega arith
key_some key.Size = omega arith
key_some key.InternalDate = omega arith
key_some key.Header = omega arith
key_some key.HeaderPart = omega arith
key_some key.Body = omega arith
key_some key.BodyPart = omega arith
key_some key.Jan = omega arith
key_some key.Feb = omega arith
key_some key.Mar = omega arith
key_some key.Apr = omega arith
key_some key.May = omega arith
key_some key.Jun = omega arith
key_some key.Jul = omega arith
key_some key.Aug = omega arith
key_some key.Sep = omega arith
key_some key.Oct = omega arith
key_some key.Nov = omega arith
key_some key.Dec = omega arith

-- ---- lists of octets of a class

each_mid : (p : ℕ → Bool) (x y : List ℕ) (c : ℕ) → Each p (x ++ c ∷ y) → p c ≡ true
each_mid p x y c h = (each_parts p x (c ∷ y) h).1.0

-- an octet of a key is an atom's, in lower case, and none of `!`, `{` and `-`
pub key_octet_parts : (c : ℕ) → is_key_octet c ≡ true → (is_atom c ≡ true) × ((lower c == c) ≡ true) × ((c == 33) ≡ false) × ((c == 123) ≡ false) × (not (c == 45) ≡ true)
key_octet_parts c e =
    let p = and_parts (is_atom c && (lower c == c) && not (c == 33)) (not (c == 45)) e in
    let q = and_parts (is_atom c && (lower c == c)) (not (c == 33)) p.0 in
    let r = and_parts (is_atom c) (lower c == c) q.0 in
    (r.0, r.1, not-true (c == 33) q.1, (atom_apart c r.0).1, p.1)

atom_word : (c : ℕ) → is_atom c ≡ true → is_word c ≡ true
atom_word c e = grind arith

-- an octet of a key may stand in the word of a month
pub key_octet_month : (c : ℕ) → is_key_octet c ≡ true → in_word place.Month c ≡ true
key_octet_month c e = let p = key_octet_parts c e in and_from (is_atom c) (not (c == 45)) p.0 p.4

key_octet_in_word : (place : WordPlace) (c : ℕ) → is_key_octet c ≡ true → in_word place c ≡ true
key_octet_in_word place.Tagged c e = atom_word c (key_octet_parts c e).0
key_octet_in_word place.Plain c e = atom_word c (key_octet_parts c e).0
key_octet_in_word place.Numbered c e = atom_word c (key_octet_parts c e).0
key_octet_in_word place.Item c e = (key_octet_parts c e).0
key_octet_in_word place.Month c e = key_octet_month c e

-- the octets of a key, from any index on, may stand in a word of each place
pub key_in_word : (place : WordPlace) (k : Key) (at : ℕ) → Each (in_word place) (drop at (key_text k))
key_in_word place k at =
    each_to is_key_octet (in_word place) (drop at (key_text k)) (key_octet_in_word place)
    (each_parts is_key_octet (take at (key_text k)) (drop at (key_text k)) (subst (Each is_key_octet) (sym (take-append-drop at (key_text k))) (key_octets k))).1

same_lower : (t : List ℕ) → Each is_key_octet t → map lower t ≡ t
same_lower [] h = refl
same_lower (c ∷ t) h = let e : lower c ≡ c = eqb-true _ _ (key_octet_parts c h.0).1 in let r = same_lower t h.1 in cc

-- the text of a key, from any index on, is in lower case
pub key_lower : (k : Key) (at : ℕ) → map lower (drop at (key_text k)) ≡ drop at (key_text k)
key_lower k at = same_lower (drop at (key_text k)) (each_parts is_key_octet (take at (key_text k)) (drop at (key_text k))
    (subst (Each is_key_octet) (sym (take-append-drop at (key_text k))) (key_octets k))).1

-- `!` stands in no key
pub no_bang : (k : Key) (x y : List ℕ) → x ++ 33 ∷ y ≡ key_text k → ⊥
no_bang k x y e = let q = each_mid is_key_octet x y 33 (subst (Each is_key_octet) (sym e) (key_octets k)) in absurd cc

-- ---- searches

-- texts that the comparison finds equal are equal
pub same_text : (a b : List ℕ) → bytes_eq a b ≡ true → a ≡ b
same_text a b e = (bytes_eq-Decides a b).0 e

-- the comparison finds equal texts equal
pub text_same : (a b : List ℕ) → a ≡ b → bytes_eq a b ≡ true
text_same a b e = (bytes_eq-Decides a b).1 e

-- a text is itself
pub self_same : (t : List ℕ) → bytes_eq t t ≡ true
self_same t = text_same t t refl

pub ruleset selves = (self_same)

-- the key that a search finds passes its test, and is among those that were searched
pub find_some : (p : Key → Bool) (xs : List Key) (x : Key) → find p xs ≡ Some x → (p x ≡ true) × Among x xs
find_some p [] x e = absurd cc
find_some p (y ∷ xs) x e = by (p y) refl (find_some p xs x) e
  where
    by : (b : Bool) → p y ≡ b → (find p xs ≡ Some x → (p x ≡ true) × Among x xs) → cond b (Some y) (find p xs) ≡ Some x → (p x ≡ true) × Among x (y ∷ xs)
    by true f ih g = let same : y ≡ x = cc in (ap p (sym same) ∙ f, inl (sym same))
    by false f ih g = let r = ih g in (r.0, inr r.1)

-- where a search finds none, no key that it searched passes its test
pub find_none : (p : Key → Bool) (xs : List Key) (x : Key) → find p xs ≡ None → Among x xs → p x ≡ true → ⊥
find_none p [] x e h f = h
find_none p (y ∷ xs) x e h f = by (p y) refl (λ g rest. find_none p xs x g rest f) e
  where
    by : (b : Bool) → p y ≡ b → (find p xs ≡ None → Among x xs → ⊥) → cond b (Some y) (find p xs) ≡ None → ⊥
    by true q ih g = cc
    by false q ih g = elim h [ inl same ↦ (let k : p x ≡ false = ap p same ∙ q in cc) | inr rest ↦ ih g rest ]

-- the test for a key among others holds where it is among them
pub among_is : (x : Key) (xs : List Key) → Among x xs → is_among x xs ≡ true
among_is x [] h = absurd h
among_is x (y ∷ xs) (inl e) = or_left (bytes_eq (key_text x) (key_text y)) (is_among x xs) (text_same (key_text x) (key_text y) (ap key_text e))
among_is x (y ∷ xs) (inr h) = or_right (bytes_eq (key_text x) (key_text y)) (is_among x xs) (among_is x xs h)

-- a key is among others where the test for it holds
pub is_among_is : (x : Key) (xs : List Key) → is_among x xs ≡ true → Among x xs
is_among_is x [] e = absurd cc
is_among_is x (y ∷ xs) e = elim (or_cases (bytes_eq (key_text x) (key_text y)) (is_among x xs) e) [
  | inl f ↦ inl (one_key x y (same_text (key_text x) (key_text y) f))
  | inr f ↦ inr
      (is_among_is x xs f)
]

-- a key of a place, searched before the others, is one of them
pub among_keys : (p : WordPlace) (k x : Key) → is_among k (keys p) ≡ true → Among x (k ∷ keys p) → Among x (keys p)
among_keys p k x m (inl e) = subst (λ (y : Key). Among y (keys p)) (sym e) (is_among_is k (keys p) m)
among_keys p k x m (inr h) = h

-- ---- a key that goes on

-- the first i + 1 octets are the first i and the one at index i
pub take_next : (t : List ℕ) (i c : ℕ) → i < length t → get_or t i 0 ≡ c → take (i + 1) t ≡ take i t ++ c ∷ []
take_next t i c lt e = grind (arith, common_steps)

-- a key that goes on with an octet begins with the octets so far and then this one
pub goes_to : (k x : Key) (at c : ℕ) → goes_on k at c x ≡ true → (take (at + 1) (key_text x) ≡ take at (key_text k) ++ c ∷ []) × (at + 1 ≤ length (key_text x))
goes_to k x at c e =
    let p = and_parts (nat_lt at (length (key_text x)) && get_or (key_text x) at 0 == c) (bytes_eq (take at (key_text x)) (take at (key_text k))) e in
    let q = and_parts (nat_lt at (length (key_text x))) (get_or (key_text x) at 0 == c) p.0 in
    let lt = ltb-true _ _ q.0 in
    (take_next (key_text x) at c lt (eqb-true _ _ q.1) ∙ ap (λ (u : List ℕ). u ++ c ∷ []) (same_text (take at (key_text x)) (take at (key_text k)) p.1), omega (arith, lt))

at_front : (x y : List ℕ) (c n : ℕ) → n ≡ length x → (n < length (x ++ c ∷ y)) × (get_or (x ++ c ∷ y) n 0 ≡ c) × (take n (x ++ c ∷ y) ≡ x)
at_front [] y c zero e = (omega arith, refl, refl)
at_front [] y c (suc n) e = absurd (omega (arith, e))
at_front (d ∷ x) y c zero e = absurd (omega (arith, e))
at_front (d ∷ x) y c (suc n) e = let r = at_front x y c n (omega (arith, e)) in (omega (arith, r.0), r.1, ap (λ (u : List ℕ). d ∷ u) r.2)

-- a key that begins with the octets so far and then an octet goes on with it
pub goes_from : (k x : Key) (at c : ℕ) (y : List ℕ) → at ≤ length (key_text k) → take at (key_text k) ++ c ∷ y ≡ key_text x → goes_on k at c x ≡ true
goes_from k x at c y le e =
    let r = at_front (take at (key_text k)) y c at (sym (length-take-le at (key_text k) le)) in
    subst (λ (t : List ℕ). (nat_lt at (length t) && get_or t at 0 == c && bytes_eq (take at t) (take at (key_text k))) ≡ true) e
    (and_from _ _ (and_from _ _ (lt-ltb _ _ r.0) (eq-eqb _ _ r.1)) (text_same _ _ r.2))

-- an octet with which a key goes on is one of its own
goes_key_octet : (k x : Key) (at c : ℕ) → goes_on k at c x ≡ true → is_key_octet c ≡ true
goes_key_octet k x at c e =
    let g = goes_to k x at c e in
    let all = subst (Each is_key_octet) (sym (take-append-drop (at + 1) (key_text x))) (key_octets x) in
    let front = (each_parts is_key_octet (take (at + 1) (key_text x)) (drop (at + 1) (key_text x)) all).0 in
    each_mid is_key_octet (take at (key_text k)) [] c (subst (Each is_key_octet) g.0 front)

-- no key goes on with `{`
pub goes_octet : (k x : Key) (at c : ℕ) → goes_on k at (lower c) x ≡ true → (c == 123) ≡ false
goes_octet k x at c e = no_brace c (key_octet_parts (lower c) (goes_key_octet k x at (lower c) e)).3
  where
    no_brace : (c : ℕ) → (lower c == 123) ≡ false → (c == 123) ≡ false
    no_brace c e = grind arith

-- it stands in the words of each place, in either case
pub goes_in_word : (p : WordPlace) (k x : Key) (at c : ℕ) → goes_on k at (lower c) x ≡ true → in_word p c ≡ true
goes_in_word p k x at c e =
    let parts = key_octet_parts (lower c) (goes_key_octet k x at (lower c) e) in
    of p c (upper_atom c parts.0) (upper_dash c parts.4)
  where
    upper_atom : (c : ℕ) → is_atom (lower c) ≡ true → is_atom c ≡ true
    upper_atom c e = grind arith

    upper_dash : (c : ℕ) → not (lower c == 45) ≡ true → not (c == 45) ≡ true
    upper_dash c e = grind arith

    of : (p : WordPlace) (c : ℕ) → is_atom c ≡ true → not (c == 45) ≡ true → in_word p c ≡ true
    of place.Tagged c e f = atom_word c e
    of place.Plain c e f = atom_word c e
    of place.Numbered c e f = atom_word c e
    of place.Item c e f = e
    of place.Month c e f = and_from (is_atom c) (not (c == 45)) e f

-- ---- a key that is whole

-- a key that is whole has the octets so far as its text
pub whole_to : (k x : Key) (at : ℕ) → is_whole k at x ≡ true → take at (key_text k) ≡ key_text x
whole_to k x at e =
    let p = and_parts (length (key_text x) == at) (bytes_eq (take at (key_text x)) (take at (key_text k))) e in
    sym (same_text _ _ p.1) ∙ ap (λ (n : ℕ). take n (key_text x)) (sym (eqb-true _ _ p.0)) ∙ take-length (key_text x)

-- a key that has the octets so far as its text is whole
pub whole_from : (k x : Key) (at : ℕ) → at ≤ length (key_text k) → take at (key_text k) ≡ key_text x → is_whole k at x ≡ true
whole_from k x at le e =
    let n : length (key_text x) ≡ at = sym (ap length e) ∙ length-take-le at (key_text k) le in
    and_from _ _ (eq-eqb _ _ n) (text_same _ _ (ap (λ (m : ℕ). take m (key_text x)) (sym n) ∙ take-length (key_text x) ∙ sym e))

-- no key is long
pub key_short : (k : Key) → length (key_text k) ≤ 15
key_short key.Ok = omega arith
key_short key.No = omega arith
key_short key.Bad = omega arith
key_short key.Preauth = omega arith
key_short key.Bye = omega arith
key_short key.Capability = omega arith
key_short key.Enabled = omega arith
key_short key.Vanished = omega arith
key_short key.List = omega arith
key_short key.Status = omega arith
key_short key.Exists = omega arith
key_short key.Expunge = omega arith
key_short key.Fetch = omega arith
key_short key.Uid = omega arith
key_short key.Flags = omega arith
key_short key.ModSeq = omega arith
key_short key.InternalDate = omega arith
key_short key.Size = omega arith
key_short key.Header = omega arith
key_short key.HeaderPart = omega arith
key_short key.Body = omega arith
key_short key.BodyPart = omega arith
key_short key.Jan = omega arith
key_short key.Feb = omega arith
key_short key.Mar = omega arith
key_short key.Apr = omega arith
key_short key.May = omega arith
key_short key.Jun = omega arith
key_short key.Jul = omega arith
key_short key.Aug = omega arith
key_short key.Sep = omega arith
key_short key.Oct = omega arith
key_short key.Nov = omega arith
key_short key.Dec = omega arith

pub ruleset keys_short = (key_short)
