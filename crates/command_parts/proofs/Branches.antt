-- Readers of one of two languages, by the first octet, and of no octet at all.
use Rattle.std.proofs.Common.{◌≡◌, ℕ, Bool, true, false, List, [], ◌∷◌, ◌++◌, get_or, cond, refl, sym, ap, ◌∙◌, inl, inr}
use Rattle.std.specs.Prelude.{◌⊎◌, ◌==◌, Result, Ok, Err}
use Rattle.std.proofs.lemmas.Bool.{cond-true, cond-false}
use Rattle.imap_types.specs.Texts.{plain_of, plain_octets}
use Rattle.command_parts.specs.Fields.{AreOctets}
use Rattle.command_parts.specs.declared.no_command.NoCommand.{NoCommand}
use Rattle.command_parts.specs.declared.no_command.NoCommand.TheVariants.{NeedMore, WantsLiteral, Bad}
use Rattle.command_parts.proofs.Readers.{stop_of, IsOpen, IsWrong, Stopped, IsReader, some_cons}

-- ---- no octet

abbrev pub Nothing : {C : Type 0} → C → C → List ℕ → Type 0
Nothing x c t = (c ≡ x) × (t ≡ [])

-- what reads no octet reads the empty text
pub nothing_reader : {C : Type 0} (first : NoCommand) (x : C) → IsReader first (Nothing x) (λ b. Ok (x, b))
nothing_reader {C} first x = record {
  whole = λ v t rest h. ap (λ (u : List ℕ). Ok (x, plain_octets u ++ rest)) h.1 ∙ ap (λ (y : C). Ok (y, rest)) (sym h.0);
  short = λ v t more h proper. absurd (proper (none_after t more h.1));
  found = λ b v rest are e. let p : ◌≡◌ {A = C × List ℕ} (x, b) (v, rest) = cc in ([], (sym (ap (λ (q : C × List ℕ). q.0) p), refl), ap (λ (q : C × List ℕ). q.1) p);
  stopped = λ b e are h. absurd (no_stop b e h);
  some = (x, [], (refl, refl));
}
  where
    none_after : (t more : List ℕ) → t ++ more ≡ [] → more ≡ []
    none_after [] more e = e
    none_after (c ∷ t) more e = absurd (some_cons c (t ++ more) e)

    no_stop : (b : List ℕ) (e : NoCommand) → ◌≡◌ {A = Result (C × List ℕ) NoCommand} (Ok (x, b)) (Err e) → ⊥
    no_stop b e h = cc

-- ---- one of two

abbrev pub Either : {T : Type 0} → (T → List ℕ → Type 0) → (T → List ℕ → Type 0) → T → List ℕ → Type 0
Either L M v t = L v t ⊎ M v t

abbrev pub either : {T : Type 0} → ℕ → (List ℕ → Result (T × List ℕ) NoCommand) → (List ℕ → Result (T × List ℕ) NoCommand) → List ℕ → Result (T × List ℕ) NoCommand
either d R Q b = cond (get_or b 0 0 == d) (R b) (Q b)

-- each text begins with an octet for which the test answers so
abbrev pub BeginsBy : {T : Type 0} → ℕ → Bool → (T → List ℕ → Type 0) → Type 0
BeginsBy {T = T} d answer L = (v : T) (t : List ℕ) → L v t → (c : ℕ) × (y : List ℕ) × (t ≡ c ∷ y) × ((plain_of c == d) ≡ answer)

-- the first octet of a front of a text
first_is : (d c e : ℕ) (answer : Bool) (t more y : List ℕ) → (c ∷ t) ++ more ≡ e ∷ y → (plain_of e == d) ≡ answer → (plain_of c == d) ≡ answer
first_is d c e answer t more y same h = let first : c ≡ e = cc in ap (λ (n : ℕ). plain_of n == d) first ∙ h

first_same : (d c : ℕ) (answer : Bool) (x r s b : List ℕ) → b ≡ x ++ c ∷ s → (get_or b 0 0 == d) ≡ answer → (get_or (x ++ c ∷ r) 0 0 == d) ≡ answer
first_same d c answer [] r s b e h = ap (λ (u : List ℕ). get_or u 0 0 == d) (sym e) ∙ h
first_same d c answer (a ∷ x) r s b e h = ap (λ (u : List ℕ). get_or u 0 0 == d) (sym e) ∙ h

either_true : {T : Type 0} (d : ℕ) (R Q : List ℕ → Result (T × List ℕ) NoCommand) (b : List ℕ) → (get_or b 0 0 == d) ≡ true → either d R Q b ≡ R b
either_true d R Q b e = cond-true (get_or b 0 0 == d) (R b) (Q b) e

either_false : {T : Type 0} (d : ℕ) (R Q : List ℕ → Result (T × List ℕ) NoCommand) (b : List ℕ) → (get_or b 0 0 == d) ≡ false → either d R Q b ≡ Q b
either_false d R Q b e = cond-false (get_or b 0 0 == d) (R b) (Q b) e

either_whole : {T : Type 0} (first : NoCommand) (d : ℕ) (L M : T → List ℕ → Type 0) (R Q : List ℕ → Result (T × List ℕ) NoCommand) → IsReader first L R → IsReader first M Q
    → BeginsBy d true L → BeginsBy d false M → (v : T) (t rest : List ℕ) → Either L M v t → either d R Q (plain_octets t ++ rest) ≡ Ok (v, rest)
either_whole first d L M R Q r q begin other v t rest (inl h) =
    let x = begin v t h in
    either_true d R Q (plain_octets t ++ rest) (ap (λ (u : List ℕ). get_or (plain_octets u ++ rest) 0 0 == d) x.2 ∙ x.3) ∙ r.whole v t rest h
either_whole first d L M R Q r q begin other v t rest (inr h) =
    let x = other v t h in
    either_false d R Q (plain_octets t ++ rest) (ap (λ (u : List ℕ). get_or (plain_octets u ++ rest) 0 0 == d) x.2 ∙ x.3) ∙ q.whole v t rest h

-- before any octet the second reader decides
either_nothing : {T : Type 0} (first : NoCommand) (d : ℕ) (M : T → List ℕ → Type 0) (R Q : List ℕ → Result (T × List ℕ) NoCommand) → IsReader first M Q → BeginsBy d false M
    → (0 == d) ≡ false
    → either d R Q [] ≡ Err first
either_nothing first d M R Q q other zero =
    let x = q.some in
    let y = other x.0 x.1 x.2 in
    either_false d R Q [] zero ∙ q.short x.0 [] x.1 x.2 (λ e. some_cons y.0 y.1 (sym y.2 ∙ e))

either_short : {T : Type 0} (first : NoCommand) (d : ℕ) (L M : T → List ℕ → Type 0) (R Q : List ℕ → Result (T × List ℕ) NoCommand) → IsReader first L R → IsReader first M Q
    → BeginsBy d true L → BeginsBy d false M → (0 == d) ≡ false → (v : T) (t more : List ℕ) → Either L M v (t ++ more) → (more ≡ [] → ⊥)
    → either d R Q (plain_octets t) ≡ Err (stop_of first t)
either_short first d L M R Q r q begin other zero v [] more h proper = either_nothing first d M R Q q other zero
either_short first d L M R Q r q begin other zero v (c ∷ t) more (inl h) proper =
    let x = begin v ((c ∷ t) ++ more) h in
    either_true d R Q (plain_octets (c ∷ t)) (first_is d c x.0 true t more x.1 x.2 x.3) ∙ r.short v (c ∷ t) more h proper
either_short first d L M R Q r q begin other zero v (c ∷ t) more (inr h) proper =
    let x = other v ((c ∷ t) ++ more) h in
    either_false d R Q (plain_octets (c ∷ t)) (first_is d c x.0 false t more x.1 x.2 x.3) ∙ q.short v (c ∷ t) more h proper

open_either : {T : Type 0} (first : NoCommand) (L M : T → List ℕ → Type 0) (b : List ℕ) (e : NoCommand) → ((v : T) (t : List ℕ) → L v t → M v t) → IsOpen L first b e
    → IsOpen M first b e
open_either first L M b e f o = record {
  value = o.value;
  text = o.text;
  more = o.more;
  reads = f o.value (o.text ++ o.more) o.reads;
  proper = o.proper;
  octets = o.octets;
  stop = o.stop;
}

wrong_either : {T : Type 0} (L M : T → List ℕ → Type 0) (R Q : List ℕ → Result (T × List ℕ) NoCommand) (b : List ℕ) (left : ℕ) → ((v : T) (t : List ℕ) → L v t → M v t)
    → (o : IsWrong L R b left) → ((r : List ℕ) → Q (plain_octets o.text ++ o.octet ∷ r) ≡ R (plain_octets o.text ++ o.octet ∷ r)) → IsWrong M Q b left
wrong_either L M R Q b left f o same = record {
  value = o.value;
  text = o.text;
  more = o.more;
  octet = o.octet;
  rest = o.rest;
  reads = f o.value (o.text ++ o.more) o.reads;
  proper = o.proper;
  whole = o.whole;
  left_is = o.left_is;
  stays = λ r. same r ∙ o.stays r;
}

stopped_first : {T : Type 0} (first : NoCommand) (d : ℕ) (L M : T → List ℕ → Type 0) (R Q : List ℕ → Result (T × List ℕ) NoCommand) (b : List ℕ) (e : NoCommand)
    → (get_or b 0 0 == d) ≡ true
    → Stopped L R first b e → Stopped (Either L M) (either d R Q) first b e
stopped_first first d L M R Q b NeedMore g o = open_either first L (Either L M) b NeedMore (λ v t h. inl h) o
stopped_first first d L M R Q b WantsLiteral g o = open_either first L (Either L M) b WantsLiteral (λ v t h. inl h) o
stopped_first first d L M R Q b (Bad left) g o = wrong_either L (Either L M) R (either d R Q) b left (λ v t h. inl h) o
    (λ r. either_true d R Q (plain_octets o.text ++ o.octet ∷ r) (first_same d o.octet true (plain_octets o.text) r o.rest b o.whole g))

stopped_other : {T : Type 0} (first : NoCommand) (d : ℕ) (L M : T → List ℕ → Type 0) (R Q : List ℕ → Result (T × List ℕ) NoCommand) (b : List ℕ) (e : NoCommand)
    → (get_or b 0 0 == d) ≡ false
    → Stopped M Q first b e → Stopped (Either L M) (either d R Q) first b e
stopped_other first d L M R Q b NeedMore g o = open_either first M (Either L M) b NeedMore (λ v t h. inr h) o
stopped_other first d L M R Q b WantsLiteral g o = open_either first M (Either L M) b WantsLiteral (λ v t h. inr h) o
stopped_other first d L M R Q b (Bad left) g o = wrong_either M (Either L M) Q (either d R Q) b left (λ v t h. inr h) o
    (λ r. either_false d R Q (plain_octets o.text ++ o.octet ∷ r) (first_same d o.octet false (plain_octets o.text) r o.rest b o.whole g))

-- texts of two languages that differ in their first octet are read by it
pub either_reader : {T : Type 0} (first : NoCommand) (d : ℕ) (L M : T → List ℕ → Type 0) (R Q : List ℕ → Result (T × List ℕ) NoCommand) → IsReader first L R → IsReader first M Q
    → BeginsBy d true L → BeginsBy d false M → (0 == d) ≡ false → IsReader first (Either L M) (either d R Q)
either_reader {T} first d L M R Q r q begin other zero = record {
  whole = either_whole first d L M R Q r q begin other;
  short = either_short first d L M R Q r q begin other zero;
  found = λ b v rest are e. found b v rest are e (get_or b 0 0 == d) refl;
  stopped = λ b e are h. stopped b e are h (get_or b 0 0 == d) refl;
  some = let x = r.some in (x.0, x.1, inl x.2);
}
  where
    found : (b : List ℕ) (v : T) (rest : List ℕ) → AreOctets b → either d R Q b ≡ Ok (v, rest) → (a : Bool) → (get_or b 0 0 == d) ≡ a
        → (t : List ℕ) × Either L M v t × (b ≡ plain_octets t ++ rest)
    found b v rest are e true g = let x = r.found b v rest are (sym (either_true d R Q b g) ∙ e) in (x.0, inl x.1, x.2)
    found b v rest are e false g = let x = q.found b v rest are (sym (either_false d R Q b g) ∙ e) in (x.0, inr x.1, x.2)

    stopped : (b : List ℕ) (e : NoCommand) → AreOctets b → either d R Q b ≡ Err e → (a : Bool) → (get_or b 0 0 == d) ≡ a → Stopped (Either L M) (either d R Q) first b e
    stopped b e are h true g = stopped_first first d L M R Q b e g (r.stopped b e are (sym (either_true d R Q b g) ∙ h))
    stopped b e are h false g = stopped_other first d L M R Q b e g (q.stopped b e are (sym (either_false d R Q b g) ∙ h))
