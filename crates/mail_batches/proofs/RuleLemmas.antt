-- Tests of texts, names and numbers say what the rules say.
use Rattle.std.proofs.Common.{◌≡◌, ◌≢◌, ◌↔◌, ◌^◌, ◌&&◌, ℕ, Bool, true, false, not, eqb, eqb-true, eq-eqb, ne_eqb, List, [], ◌∷◌, ◌++◌, length, Option, Some, None, Result, Ok, Err, refl, sym, ap, subst, ◌∙◌, inl, inr, arith}
use Rattle.std.specs.Prelude.{IsTrue, IfOk, nat_le, nat_lt, if◌then◌else◌}
use Rattle.std.specs.List.{list_all}
use Rattle.std.proofs.lemmas.Bool.{ltb-true, leb-true, lt-ltb, le-leb}
use Rattle.std.proofs.lemmas.List.{append-nil}
use Rattle.imap_types.specs.Items.{IsName, AllNames, kept}
use Rattle.imap_types.specs.Octets.{is_atom, is_text}
use Rattle.imap_types.specs.Strings.{IsAtom}
use Rattle.imap_types.specs.Texts.{Each}
use Rattle.told_folder.specs.declared.message.Folder.{Folder}
use Rattle.told_folder.specs.declared.message.Message.{Message}
use Rattle.told_mail.specs.Mail.{IsKept}
use Rattle.mail_batches.specs.Rules.{AreFlags, IsRightFolder, IsRightMessage}
use Rattle.mail_batches.proofs.Found.{one_some, some_none}
use Rattle.mail_batches.specs.reading.Testing.{is_atom_text, is_name, is_zero, has_right_numbers, has_right_places}

-- ---- two tests

both_true : (a b : Bool) → (a && b) ≡ true → (a ≡ true) × (b ≡ true)
both_true true b e = (refl, e)
both_true false b e = absurd (cc)

both_are : (a b : Bool) → a ≡ true → b ≡ true → (a && b) ≡ true
both_are a b p q = ap (λ (x : Bool). x && b) p ∙ q

-- ---- texts

each_is : (p : ℕ → Bool) (t : List ℕ) → list_all p t ≡ true → Each p t
each_is p [] e = tt
each_is p (c ∷ t) e = let b = both_true (p c) (list_all p t) e in (b.0, each_is p t b.1)

each_to : (p : ℕ → Bool) (t : List ℕ) → Each p t → list_all p t ≡ true
each_to p [] h = refl
each_to p (c ∷ t) h = both_are (p c) (list_all p t) h.0 (each_to p t h.1)

atom_is : (t : List ℕ) → is_atom_text t ≡ true → IsAtom t
atom_is t e = let b = both_true (nat_lt 0 (length t)) (list_all is_atom t) e in (each_is is_atom t b.1, ltb-true 0 (length t) b.0)

atom_to : (t : List ℕ) → IsAtom t → is_atom_text t ≡ true
atom_to t h = both_are (nat_lt 0 (length t)) (list_all is_atom t) (lt-ltb 0 (length t) h.1) (each_to is_atom t h.0)

-- ---- names

name_is : (t : List ℕ) → is_name t ≡ true → IsName t
name_is [] e = absurd (cc)
name_is (c ∷ t) e = by (eqb c 92) refl e
  where
    by : (b : Bool) → eqb c 92 ≡ b → (if b then is_atom_text t else is_atom_text (c ∷ t)) ≡ true → IsName (c ∷ t)
    by true same h = inr (t, ap (λ (n : ℕ). n ∷ t) (eqb-true c 92 same), atom_is t h)
    by false other h = inl (atom_is (c ∷ t) h)

no_backslash : (c : ℕ) → c ≡ 92 → is_atom c ≡ true → ⊥
no_backslash c same e = let is : is_atom 92 ≡ true = subst (λ (n : ℕ). is_atom n ≡ true) same e in absurd (cc)

name_to : (t : List ℕ) → IsName t → is_name t ≡ true
name_to [] (inl h) = let lt = h.1 in absurd (omega (arith, lt))
name_to (c ∷ t) (inl h) = by (eqb c 92) refl
  where
    by : (b : Bool) → eqb c 92 ≡ b → (if b then is_atom_text t else is_atom_text (c ∷ t)) ≡ true
    by true same = absurd (no_backslash c (eqb-true c 92 same) h.0.0)
    by false other = atom_to (c ∷ t) h
name_to t (inr h) = subst (λ (s : List ℕ). is_name s ≡ true) (sym h.1) (atom_to h.0 h.2)

names_are : (ns : List (List ℕ)) → list_all is_name ns ≡ true → AllNames ns
names_are [] e = tt
names_are (n ∷ ns) e = let b = both_true (is_name n) (list_all is_name ns) e in (name_is n b.0, names_are ns b.1)

names_to : (ns : List (List ℕ)) → AllNames ns → list_all is_name ns ≡ true
names_to [] h = refl
names_to (n ∷ ns) h = both_are (is_name n) (list_all is_name ns) (name_to n h.0) (names_to ns h.1)

-- ---- names in kept form

pub same_kept : (b : Bool) (k ns : List (List ℕ)) → k ≡ kept (ns ++ []) → IsTrue b ↔ (k ≡ ns) → IsTrue b ↔ IsKept ns
same_kept b k ns is both = let e : k ≡ kept ns = is ∙ ap kept (append-nil ns) in (λ h. sym e ∙ both.0 h, λ h. both.1 (e ∙ h))

pub false_true : (b : Bool) → b ≡ false → b ≡ true → ⊥
false_true b p q = cc

-- nothing is right where a test fails
abbrev pub IsWrong : Type 0 → Type 0
IsWrong P = IsTrue false ↔ P

pub wrong : (P : Type 0) (b : Bool) → b ≡ false → (P → b ≡ true) → IsWrong P
wrong P b e to = (λ h. absurd (cc), λ h. absurd (false_true b e (to h)))

abbrev pub Tells : {E : Type 0} → Result Bool E → Type 0 → Type 0
Tells r P = IfOk r (λ b. IsTrue b ↔ P)

tells_too : {E : Type 0} (r : Result Bool E) (P Q : Type 0) → (P → Q) → (Q → P) → Tells r P → Tells r Q
tells_too (Ok b) P Q to from h = (λ e. to (h.0 e), λ q. h.1 (from q))
tells_too (Err e) P Q to from h = h

pub flags_names : (ns : List (List ℕ)) → AreFlags ns → list_all is_name ns ≡ true
flags_names ns h = names_to ns h.names

pub flags_told : {E : Type 0} (r : Result Bool E) (ns : List (List ℕ)) → list_all is_name ns ≡ true → Tells r (IsKept ns) → Tells r (AreFlags ns)
flags_told r ns e h = tells_too r (IsKept ns) (AreFlags ns) (λ k. record { kept = k; names = names_are ns e }) (λ f. f.kept) h

-- ---- folders

some_delimiter : (d : Option ℕ) → not (is_zero d) ≡ true → d ≢ Some 0
some_delimiter None e = λ same. some_none 0 (sym same)
some_delimiter (Some n) e = λ same.
    let zero : n ≡ 0 = one_some n 0 same in
    let is : eqb n 0 ≡ true = eq-eqb n 0 zero in
    false_true (eqb n 0) (not_true (eqb n 0) e) is
  where
    not_true : (b : Bool) → not b ≡ true → b ≡ false
    not_true true e = absurd (cc)
    not_true false e = refl

no_zero : (d : Option ℕ) → d ≢ Some 0 → not (is_zero d) ≡ true
no_zero None other = refl
no_zero (Some n) other = ap not (ne_eqb n 0 (λ same. other (ap (λ (k : ℕ). Some k) same)))

pub numbers_to : (f : Folder) → IsRightFolder f → has_right_numbers f ≡ true
numbers_to f h =
    let w = h.well_formed in
    both_are _ _ (lt-ltb 0 f.number w.numbered) (both_are _ _ (le-leb f.number 9007199254740991 w.number) (both_are _ _ (lt-ltb f.modseq (2 ^ 63) h.modseq)
    (both_are _ _ (lt-ltb 0 f.next w.begun) (both_are _ _ (le-leb f.next (2 ^ 32) w.next) (no_zero f.delimiter w.delimiter)))))

pub name_text : (f : Folder) → IsRightFolder f → list_all is_text f.name ≡ true
name_text f h = each_to is_text f.name h.name

pub folder_told : {E : Type 0} (r : Result Bool E) (f : Folder) → has_right_numbers f ≡ true → list_all is_text f.name ≡ true → Tells r (AreFlags f.attributes)
    → Tells r (IsRightFolder f)
folder_told r f numbers name h =
    let a = both_true (nat_lt 0 f.number) _ numbers in
    let b = both_true (nat_le f.number 9007199254740991) _ a.1 in
    let c = both_true (nat_lt f.modseq (2 ^ 63)) _ b.1 in
    let d = both_true (nat_lt 0 f.next) _ c.1 in
    let e = both_true (nat_le f.next (2 ^ 32)) _ d.1 in
    tells_too r (AreFlags f.attributes) (IsRightFolder f)
    (λ flags. record {
      well_formed = record {
        numbered = ltb-true 0 f.number a.0;
        number = leb-true f.number 9007199254740991 b.0;
        delimiter = some_delimiter f.delimiter e.1;
        attributes = flags.kept;
        begun = ltb-true 0 f.next d.0;
        next = leb-true f.next (2 ^ 32) e.0;
      };
      name = each_is is_text f.name name;
      attributes = flags.names;
      modseq = ltb-true f.modseq (2 ^ 63) c.0;
    })
    (λ right. record { kept = right.well_formed.attributes; names = right.attributes })
    h

-- ---- messages

pub places_to : (x : Message) → IsRightMessage x → has_right_places x ≡ true
places_to x h =
    both_are _ _ (lt-ltb 0 x.mark h.well_formed.marked) (both_are _ _ (le-leb x.mark 9007199254740991 h.well_formed.mark)
    (both_are _ _ (lt-ltb 0 x.uid h.uid) (lt-ltb x.size (2 ^ 63) h.size)))

pub message_told : {E : Type 0} (r : Result Bool E) (x : Message) → has_right_places x ≡ true → Tells r (AreFlags x.flags) → Tells r (IsRightMessage x)
message_told r x places h =
    let a = both_true (nat_lt 0 x.mark) _ places in
    let b = both_true (nat_le x.mark 9007199254740991) _ a.1 in
    let c = both_true (nat_lt 0 x.uid) _ b.1 in
    tells_too r (AreFlags x.flags) (IsRightMessage x)
    (λ flags. record {
      well_formed = record { marked = ltb-true 0 x.mark a.0; mark = leb-true x.mark 9007199254740991 b.0; flags = flags.kept };
      flags = flags.names;
      uid = ltb-true 0 x.uid c.0;
      size = ltb-true x.size (2 ^ 63) c.1;
    })
    (λ right. record { kept = right.well_formed.flags; names = right.flags })
    h
