-- Flags are read as what they are.
use Rattle.std.proofs.Common.{◌≡◌, ℕ, ◌+◌, true, false, List, [], ◌∷◌, ◌++◌, cond, refl, sym, ap, subst, ◌∙◌, append_assoc, arith, inl, inr}
use Rattle.std.specs.Prelude.{◌==◌}
use Rattle.std.proofs.lemmas.Bool.{eqb-true}
use Rattle.std.proofs.lemmas.List.{append-nil}
use Rattle.imap_types.specs.Octets.{is_atom}
use Rattle.imap_types.specs.Texts.{Each, plain_octets}
use Rattle.imap_types.specs.Lines.{spaced, joined}
use Rattle.imap_types.specs.Strings.{IsAtom}
use Rattle.imap_types.specs.Items.{IsName, AllNames, kept}
use Rattle.imap_values.specs.Spans.{flags_in}
use Rattle.imap_values.proofs.Cuts.{plain_small}
use Rattle.imap_values.proofs.NameReadings.{flags_read}
use Rattle.command_parts.specs.Fields.{fits_octet}
use Rattle.command_parts.specs.declared.no_command.NoCommand.TheVariants.{NeedMore}
use Rattle.command_parts.specs.declared.lexeme.LexemeStep.{LexemeStep}
use Rattle.command_parts.specs.declared.lexeme.LexemeStep.TheVariants.{Fail, On, End}
use Rattle.command_parts.specs.declared.flags.Flags.{Flags}
use Rattle.command_parts.specs.declared.flags.Flags.TheVariants as flags
use Rattle.command_parts.specs.reading.Steps.{read_from}
use Rattle.command_parts.specs.reading.Lexemes.{flags_advance}
use Rattle.command_parts.specs.reading.Strings.{flags_at}
use Rattle.command_parts.proofs.Readers.{IsReader}
use Rattle.command_parts.proofs.Chains.{Viewed, viewed, view_reader, same_reader}
use Rattle.command_parts.proofs.Lexing.{Accepts, AcceptsBy, IsPlain, IsAlive, is_fail, accepted_octets, lexeme_reader}
use Rattle.command_parts.proofs.Stepping.{from_if, at_true, at_false, on_if, go_if}

abbrev atom_step : ℕ → LexemeStep Flags
atom_step c = cond (is_atom c) (On flags.Rest) Fail

abbrev next_step : ℕ → LexemeStep Flags
next_step c = cond (c == 92) (On flags.Atom) (atom_step c)

abbrev more_step : ℕ → LexemeStep Flags
more_step c = cond (c == 32) (On flags.Next) (atom_step c)

-- ---- which octets flags have

atom_fits : (c : ℕ) → is_atom c ≡ true → fits_octet c ≡ true
atom_fits c e = grind arith

atom_no_line : (c : ℕ) → is_atom c ≡ true → (c == 10) ≡ false
atom_no_line c e = grind arith

sign_fits : (c d : ℕ) → fits_octet d ≡ true → (c == d) ≡ true → fits_octet c ≡ true
sign_fits c d f e = ap fits_octet (eqb-true c d e) ∙ f

sign_no_line : (c d : ℕ) → (d == 10) ≡ false → (c == d) ≡ true → (c == 10) ≡ false
sign_no_line c d f e = ap (λ (n : ℕ). n == 10) (eqb-true c d e) ∙ f

atom_go : (c : ℕ) → (is_fail (atom_step c) ≡ true → ⊥) → fits_octet c ≡ true
atom_go c h = go_if (is_atom c) (On flags.Rest) Fail (λ e k. atom_fits c e) (λ e k. absurd (k refl)) h

next_go : (c : ℕ) → (is_fail (next_step c) ≡ true → ⊥) → fits_octet c ≡ true
next_go c h = go_if (c == 92) (On flags.Atom) (atom_step c) (λ e k. sign_fits c 92 refl e) (λ e k. atom_go c k) h

flags_small : (s : Flags) (c : ℕ) → (is_fail (flags_advance s c) ≡ true → ⊥) → fits_octet c ≡ true
flags_small flags.First c h = go_if (c == 41) (End flags.First) (next_step c) (λ e k. sign_fits c 41 refl e) (λ e k. next_go c k) h
flags_small flags.Next c h = next_go c h
flags_small flags.Atom c h = atom_go c h
flags_small flags.Rest c h = go_if (c == 41) (End flags.Rest) (more_step c) (λ e k. sign_fits c 41 refl e)
    (λ e k. go_if (c == 32) (On flags.Next) (atom_step c) (λ f g. sign_fits c 32 refl f) (λ f g. atom_go c g) k) h

atom_on : (c : ℕ) (p : Flags) → atom_step c ≡ On p → (c == 10) ≡ false
atom_on c p h = on_if (is_atom c) (On flags.Rest) Fail p (λ e k. atom_no_line c e) (λ e k. absurd cc) h

next_on : (c : ℕ) (p : Flags) → next_step c ≡ On p → (c == 10) ≡ false
next_on c p h = on_if (c == 92) (On flags.Atom) (atom_step c) p (λ e k. sign_no_line c 92 refl e) (λ e k. atom_on c p k) h

flags_line : (s p : Flags) (c : ℕ) → flags_advance s c ≡ On p → (c == 10) ≡ false
flags_line flags.First p c h = on_if (c == 41) (End flags.First) (next_step c) p (λ e k. absurd cc) (λ e k. next_on c p k) h
flags_line flags.Next p c h = next_on c p h
flags_line flags.Atom p c h = atom_on c p h
flags_line flags.Rest p c h = on_if (c == 41) (End flags.Rest) (more_step c) p (λ e k. absurd cc)
    (λ e k. on_if (c == 32) (On flags.Next) (atom_step c) p (λ f g. sign_no_line c 32 refl f) (λ f g. atom_on c p g) k) h

flags_plain : IsPlain flags_advance
flags_plain = record { small = flags_small; on_line = flags_line }

flags_some : (s : Flags) → (v : Flags) × (t : List ℕ) × Accepts flags_advance s v t
flags_some flags.First = (flags.First, 41 ∷ [], (refl, refl))
flags_some flags.Next = (flags.Rest, 97 ∷ 41 ∷ [], (refl, refl))
flags_some flags.Atom = (flags.Rest, 97 ∷ 41 ∷ [], (refl, refl))
flags_some flags.Rest = (flags.Rest, 41 ∷ [], (refl, refl))

flags_alive : IsAlive flags_advance (λ s. Unit {0})
flags_alive = record { keeps = λ s p c inv e. tt; some = λ s inv. flags_some s }

-- ---- the texts

-- what a state still reads
abbrev FlagsRest : Flags → List ℕ → Type 0
FlagsRest flags.First t = (ns : List (List ℕ)) × AllNames ns × (t ≡ joined ns ++ 41 ∷ [])
FlagsRest flags.Next t = (n : List ℕ) × (ns : List (List ℕ)) × IsName n × AllNames ns × (t ≡ n ++ (spaced ns ++ 41 ∷ []))
FlagsRest flags.Atom t = (n : List ℕ) × (ns : List (List ℕ)) × IsAtom n × AllNames ns × (t ≡ n ++ (spaced ns ++ 41 ∷ []))
FlagsRest flags.Rest t = (n : List ℕ) × (ns : List (List ℕ)) × Each is_atom n × AllNames ns × (t ≡ n ++ (spaced ns ++ 41 ∷ []))

atom_rest : (c : ℕ) (t : List ℕ) → is_atom c ≡ true → FlagsRest flags.Rest t → FlagsRest flags.Atom (c ∷ t)
atom_rest c t e r = (c ∷ r.0, r.1, ((e, r.2), omega arith), r.3, ap (λ (u : List ℕ). c ∷ u) r.4)

slash_rest : (c : ℕ) (t : List ℕ) → c ≡ 92 → FlagsRest flags.Atom t → FlagsRest flags.Next (c ∷ t)
slash_rest c t e r = (92 ∷ r.0, r.1, inr (r.0, refl, r.2), r.3, ap (λ (d : ℕ). d ∷ t) e ∙ ap (λ (u : List ℕ). 92 ∷ u) r.4)

atom_next : (c : ℕ) (t : List ℕ) → FlagsRest flags.Atom (c ∷ t) → FlagsRest flags.Next (c ∷ t)
atom_next c t r = (r.0, r.1, inl r.2, r.3, r.4)

next_first : (t : List ℕ) → FlagsRest flags.Next t → FlagsRest flags.First t
next_first t r = (r.0 ∷ r.1, (r.2, r.3), r.4 ∙ sym (append_assoc r.0 (spaced r.1) (41 ∷ [])))

space_rest : (c : ℕ) (t : List ℕ) → c ≡ 32 → FlagsRest flags.Next t → FlagsRest flags.Rest (c ∷ t)
space_rest c t e r = ([], r.0 ∷ r.1, tt, (r.2, r.3), ap (λ (d : ℕ). d ∷ t) e ∙ ap (λ (u : List ℕ). 32 ∷ u) (r.4 ∙ sym (append_assoc r.0 (spaced r.1) (41 ∷ []))))

close_first : (c : ℕ) (t : List ℕ) → c ≡ 41 → t ≡ [] → FlagsRest flags.First (c ∷ t)
close_first c t e f = ([], tt, ap (λ (d : ℕ). d ∷ t) e ∙ ap (λ (u : List ℕ). 41 ∷ u) f)

close_rest : (c : ℕ) (t : List ℕ) → c ≡ 41 → t ≡ [] → FlagsRest flags.Rest (c ∷ t)
close_rest c t e f = ([], [], tt, tt, ap (λ (d : ℕ). d ∷ t) e ∙ ap (λ (u : List ℕ). 41 ∷ u) f)

more_rest : (c : ℕ) (t : List ℕ) → is_atom c ≡ true → FlagsRest flags.Rest t → FlagsRest flags.Rest (c ∷ t)
more_rest c t e r = (c ∷ r.0, r.1, (e, r.2), r.3, ap (λ (u : List ℕ). c ∷ u) r.4)

-- what a step at an octet accepts, by what the states after it read
atom_forth : {P : Type 0} (c : ℕ) (v : Flags) (t : List ℕ) → (is_atom c ≡ true → Accepts flags_advance flags.Rest v t → P)
    → AcceptsBy (atom_step c) (λ p. Accepts flags_advance p v t) v t → P
atom_forth c v t f h = from_if (is_atom c) (On flags.Rest) Fail (λ p. Accepts flags_advance p v t) v t (λ e k. f e k) (λ e k. absurd k) h

next_forth : (c : ℕ) (v : Flags) (t : List ℕ) → ((s : Flags) → Accepts flags_advance s v t → FlagsRest s t)
    → AcceptsBy (next_step c) (λ p. Accepts flags_advance p v t) v t → FlagsRest flags.Next (c ∷ t)
next_forth c v t ih h = from_if (c == 92) (On flags.Atom) (atom_step c) (λ p. Accepts flags_advance p v t) v t
    (λ e k. slash_rest c t (eqb-true c 92 e) (ih flags.Atom k))
    (λ e k. atom_forth c v t (λ f g. atom_next c t (atom_rest c t f (ih flags.Rest g))) k) h

flags_step : (s v : Flags) (c : ℕ) (t : List ℕ) → ((s : Flags) → Accepts flags_advance s v t → FlagsRest s t)
    → AcceptsBy (flags_advance s c) (λ p. Accepts flags_advance p v t) v t → FlagsRest s (c ∷ t)
flags_step flags.First v c t ih h = from_if (c == 41) (End flags.First) (next_step c) (λ p. Accepts flags_advance p v t) v t
    (λ e k. close_first c t (eqb-true c 41 e) k.1) (λ e k. next_first (c ∷ t) (next_forth c v t ih k)) h
flags_step flags.Next v c t ih h = next_forth c v t ih h
flags_step flags.Atom v c t ih h = atom_forth c v t (λ f g. atom_rest c t f (ih flags.Rest g)) h
flags_step flags.Rest v c t ih h = from_if (c == 41) (End flags.Rest) (more_step c) (λ p. Accepts flags_advance p v t) v t
    (λ e k. close_rest c t (eqb-true c 41 e) k.1)
    (λ e k. from_if (c == 32) (On flags.Next) (atom_step c) (λ p. Accepts flags_advance p v t) v t
    (λ f g. space_rest c t (eqb-true c 32 f) (ih flags.Next g)) (λ f g. atom_forth c v t (λ a b. more_rest c t a (ih flags.Rest b)) g) k) h

flags_forth : (t : List ℕ) (s v : Flags) → Accepts flags_advance s v t → FlagsRest s t
flags_forth [] s v h = absurd h
flags_forth (c ∷ t) s v h = flags_step s v c t (λ p k. flags_forth t p v k) h

-- ---- back

abbrev Read : Flags → List ℕ → Type 0
Read s t = (v : Flags) × Accepts flags_advance s v t

atom_apart : (c : ℕ) → is_atom c ≡ true → ((c == 41) ≡ false) × ((c == 32) ≡ false) × ((c == 92) ≡ false)
atom_apart c e = (grind arith, grind arith, grind arith)

atom_back : (c : ℕ) (t : List ℕ) → is_atom c ≡ true → Read flags.Rest t → Read flags.Atom (c ∷ t)
atom_back c t e r = (r.0, at_true (is_atom c) (On flags.Rest) Fail (λ p. Accepts flags_advance p r.0 t) r.0 t e r.1)

more_back : (c : ℕ) (t : List ℕ) → is_atom c ≡ true → Read flags.Rest t → Read flags.Rest (c ∷ t)
more_back c t e r =
    let a = atom_apart c e in (
      r.0,
      at_false (c == 41) (End flags.Rest) (more_step c) (λ p. Accepts flags_advance p r.0 t) r.0 t a.0
          (at_false (c == 32) (On flags.Next) (atom_step c) (λ p. Accepts flags_advance p r.0 t) r.0 t a.1
          (at_true (is_atom c) (On flags.Rest) Fail (λ p. Accepts flags_advance p r.0 t) r.0 t e r.1)),
    )

next_back : (c : ℕ) (t : List ℕ) → is_atom c ≡ true → Read flags.Rest t → Read flags.Next (c ∷ t)
next_back c t e r =
    let a = atom_apart c e in (
      r.0,
      at_false (c == 92) (On flags.Atom) (atom_step c) (λ p. Accepts flags_advance p r.0 t) r.0 t a.2
          (at_true (is_atom c) (On flags.Rest) Fail (λ p. Accepts flags_advance p r.0 t) r.0 t e r.1),
    )

first_back : (c : ℕ) (t : List ℕ) → (c == 41) ≡ false → Read flags.Next (c ∷ t) → Read flags.First (c ∷ t)
first_back c t e r = (r.0, at_false (c == 41) (End flags.First) (next_step c) (λ p. Accepts flags_advance p r.0 t) r.0 t e r.1)

atoms_back : (n t : List ℕ) → Each is_atom n → Read flags.Rest t → Read flags.Rest (n ++ t)
atoms_back [] t h r = r
atoms_back (c ∷ n) t h r = more_back c (n ++ t) h.0 (atoms_back n t h.1 r)

name_back : (n t : List ℕ) → IsName n → Read flags.Rest t → Read flags.Next (n ++ t)
name_back [] t (inl a) r = absurd (omega (arith, a.1))
name_back (c ∷ n) t (inl a) r = next_back c (n ++ t) a.0.0 (atoms_back n t a.0.1 r)
name_back n t (inr a) r = subst (λ (u : List ℕ). Read flags.Next (u ++ t)) (sym a.1) (slash a.0 a.2)
  where
    slash : (m : List ℕ) → IsAtom m → Read flags.Next (92 ∷ m ++ t)
    slash [] h = absurd (omega (arith, h.1))
    slash (c ∷ m) h = let k = atom_back c (m ++ t) h.0.0 (atoms_back m t h.0.1 r) in (k.0, k.1)

names_back : (ns : List (List ℕ)) → AllNames ns → Read flags.Rest (spaced ns ++ 41 ∷ [])
names_back [] h = (flags.Rest, (refl, refl))
names_back (n ∷ ns) h =
    let k = subst (Read flags.Next) (sym (append_assoc n (spaced ns) (41 ∷ []))) (name_back n (spaced ns ++ 41 ∷ []) h.0 (names_back ns h.1)) in
    (k.0, k.1)

name_first : (n t : List ℕ) → IsName n → Read flags.Next (n ++ t) → Read flags.First (n ++ t)
name_first [] t (inl a) r = absurd (omega (arith, a.1))
name_first (c ∷ n) t (inl a) r = first_back c (n ++ t) (atom_apart c a.0.0).0 r
name_first n t (inr a) r = subst (λ (u : List ℕ). Read flags.First (u ++ t)) (sym a.1) (first_back 92 (a.0 ++ t) refl (subst (λ (u : List ℕ). Read flags.Next (u ++ t)) a.1 r))

flags_back : (ns : List (List ℕ)) → AllNames ns → Read flags.First (joined ns ++ 41 ∷ [])
flags_back [] h = (flags.First, (refl, refl))
flags_back (n ∷ ns) h = subst (Read flags.First) (sym (append_assoc n (spaced ns) (41 ∷ [])))
    (name_first n (spaced ns ++ 41 ∷ []) h.0 (name_back n (spaced ns ++ 41 ∷ []) h.0 (names_back ns h.1)))

-- ---- the reader

-- flags from behind the opening bracket on
abbrev pub FlagsText : List (List ℕ) → List ℕ → Type 0
FlagsText fs t = (ns : List (List ℕ)) × AllNames ns × (t ≡ joined ns ++ 41 ∷ []) × (fs ≡ kept ns)

kept_of : (v : Flags) (t rest : List ℕ) (h : Accepts flags_advance flags.First v t) → (flags_in (plain_octets t ++ rest)).0 ≡ kept (flags_forth t flags.First v h).0
kept_of v t rest h =
    let r = flags_forth t flags.First v h in
    let e : plain_octets t ++ rest ≡ joined r.0 ++ 41 ∷ rest =
    ap (λ (u : List ℕ). u ++ rest) (plain_small t (accepted_octets flags_advance flags_plain flags.First v t h) ∙ r.2) ∙ append_assoc (joined r.0) (41 ∷ []) rest in
    ap (λ (q : List (List ℕ) × List ℕ). q.0) (flags_read r.0 rest (plain_octets t ++ rest) r.1 e)

-- flags are read as they are kept
pub flags_reader : IsReader NeedMore FlagsText flags_at
unfolding flags_at
flags_reader = same_reader NeedMore (Viewed (λ a b. (flags_in b).0) (Accepts flags_advance flags.First)) FlagsText
    (viewed (λ a b. (flags_in b).0) (read_from flags_advance flags.First))
    forth back (view_reader NeedMore (λ a b. (flags_in b).0) (Accepts flags_advance flags.First) (read_from flags_advance flags.First)
    (lexeme_reader flags_advance (λ s. Unit {0}) flags_plain flags_alive flags.First tt) (λ a t rest h. kept_of a t rest h ∙ sym (whole_of a t h)))
  where
    whole_of : (v : Flags) (t : List ℕ) (h : Accepts flags_advance flags.First v t) → (flags_in (plain_octets t)).0 ≡ kept (flags_forth t flags.First v h).0
    whole_of v t h = ap (λ (u : List ℕ). (flags_in u).0) (sym (append-nil (plain_octets t))) ∙ kept_of v t [] h

    forth : (fs : List (List ℕ)) (t : List ℕ) → Viewed (λ a b. (flags_in b).0) (Accepts flags_advance flags.First) fs t → FlagsText fs t
    forth fs t h = let r = flags_forth t flags.First h.0 h.1 in (r.0, r.1, r.2, h.2 ∙ whole_of h.0 t h.1)

    back : (fs : List (List ℕ)) (t : List ℕ) → FlagsText fs t → Viewed (λ a b. (flags_in b).0) (Accepts flags_advance flags.First) fs t
    back fs t h =
        let r = subst (Read flags.First) (sym h.2) (flags_back h.0 h.1) in
        let e : plain_octets t ≡ joined h.0 ++ 41 ∷ [] = plain_small t (accepted_octets flags_advance flags_plain flags.First r.0 t r.1) ∙ h.2 in
        (r.0, r.1, h.3 ∙ sym (ap (λ (q : List (List ℕ) × List ℕ). q.0) (flags_read h.0 [] (plain_octets t) h.1 e)))
