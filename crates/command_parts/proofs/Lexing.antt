-- A lexeme that is read octet by octet reads the texts that its steps accept.
use Rattle.std.proofs.Common.{◌≡◌, ℕ, suc, ◌+◌, Bool, true, false, List, [], ◌∷◌, ◌++◌, length, cond, refl, sym, ap, subst, ◌∙◌}
use Rattle.std.specs.Prelude.{◌==◌, Result, Ok, Err}
use Rattle.imap_types.proofs.EachLemmas.{each_parts}
use Rattle.imap_types.specs.Texts.{plain_octets}
use Rattle.imap_values.proofs.Cuts.{plain_small}
use Rattle.command_parts.specs.Fields.{fits_octet, AreOctets}
use Rattle.command_parts.specs.declared.no_command.NoCommand.{NoCommand}
use Rattle.command_parts.specs.declared.no_command.NoCommand.TheVariants.{NeedMore, WantsLiteral, Bad}
use Rattle.command_parts.specs.declared.lexeme.LexemeStep.{LexemeStep}
use Rattle.command_parts.specs.declared.lexeme.LexemeStep.TheVariants as step
use Rattle.command_parts.specs.reading.Steps.{stepped_to, read_from}
use Rattle.command_parts.proofs.Readers.{ends_with_line, stop_of, IsOpen, IsWrong, Stopped, IsReader, some_cons, more_before}

-- a text's rest after a step that comes to v, where Go says what a further state accepts
abbrev pub AcceptsBy : {S : Type 0} → LexemeStep S → (S → Type 0) → S → List ℕ → Type 0
AcceptsBy step.Fail Go v t = ⊥
AcceptsBy (step.On p) Go v t = Go p
AcceptsBy (step.End p) Go v t = (v ≡ p) × (t ≡ [])

-- the text leads from a state to its end at v
abbrev pub Accepts : {S : Type 0} → (S → ℕ → LexemeStep S) → S → S → List ℕ → Type 0
Accepts f s v [] = ⊥
Accepts f s v (c ∷ t) = AcceptsBy (f s c) (λ p. Accepts f p v t) v t

-- ---- texts that are accepted

whole_by : {S : Type 0} (m : LexemeStep S) (go : S → Result (S × List ℕ) NoCommand) (Go : S → Type 0) (v : S) (t rest : List ℕ) → ((p : S) → Go p → go p ≡ Ok (v, rest))
    → AcceptsBy m Go v t → stepped_to m go (t ++ rest) ≡ Ok (v, rest)
whole_by step.Fail go Go v t rest k h = absurd h
whole_by (step.On p) go Go v t rest k h = k p h
whole_by {S} (step.End p) go Go v t rest k h = ap (λ (u : List ℕ). Ok (p, u ++ rest)) h.1 ∙ ap (λ (q : S). Ok (q, rest)) (sym h.0)

accepted_whole : {S : Type 0} (f : S → ℕ → LexemeStep S) (s v : S) (t rest : List ℕ) → Accepts f s v t → read_from f s (t ++ rest) ≡ Ok (v, rest)
unfolding read_from
accepted_whole f s v [] rest h = absurd h
accepted_whole f s v (c ∷ t) rest h =
    whole_by (f s c) (λ p. read_from f p (t ++ rest)) (λ p. Accepts f p v t) v t rest (λ p k. accepted_whole f p v t rest k) h

short_by : {S : Type 0} (m : LexemeStep S) (go : S → Result (S × List ℕ) NoCommand) (Go : S → Type 0) (v : S) (t more : List ℕ) → (more ≡ [] → ⊥)
    → ((p : S) → Go p → go p ≡ Err NeedMore) → AcceptsBy m Go v (t ++ more) → stepped_to m go t ≡ Err NeedMore
short_by step.Fail go Go v t more proper k h = absurd h
short_by (step.On p) go Go v t more proper k h = k p h
short_by (step.End p) go Go v t more proper k h = absurd (more_before t more proper h.1)

accepted_short : {S : Type 0} (f : S → ℕ → LexemeStep S) (s v : S) (t more : List ℕ) → (more ≡ [] → ⊥) → Accepts f s v (t ++ more) → read_from f s t ≡ Err NeedMore
unfolding read_from
accepted_short f s v [] more proper h = refl
accepted_short f s v (c ∷ t) more proper h =
    short_by (f s c) (λ p. read_from f p t) (λ p. Accepts f p v (t ++ more)) v t more proper (λ p k. accepted_short f p v t more proper k) h

-- ---- which octets a lexeme has

abbrev pub is_fail : {S : Type 0} → LexemeStep S → Bool
is_fail step.Fail = true
is_fail m = false

-- every octet that is taken is one as it is sent; an LF ends the lexeme or isn't taken
pub record IsPlain {S : Type 0} (f : S → ℕ → LexemeStep S) : Type 0 where
  pub small : (s : S) (c : ℕ) → (is_fail (f s c) ≡ true → ⊥) → fits_octet c ≡ true
  pub on_line : (s p : S) (c : ℕ) → f s c ≡ step.On p → (c == 10) ≡ false

not_failed : {S : Type 0} (m : LexemeStep S) (Go : S → Type 0) (v : S) (t : List ℕ) → AcceptsBy m Go v t → is_fail m ≡ true → ⊥
not_failed step.Fail Go v t h e = h
not_failed (step.On p) Go v t h e = cc
not_failed (step.End p) Go v t h e = cc

rest_by : {S : Type 0} (m : LexemeStep S) (Go : S → Type 0) (v : S) (t : List ℕ) → ((p : S) → Go p → AreOctets t) → AcceptsBy m Go v t → AreOctets t
rest_by step.Fail Go v t k h = absurd h
rest_by (step.On p) Go v t k h = k p h
rest_by (step.End p) Go v t k h = subst AreOctets (sym h.1) tt

pub accepted_octets : {S : Type 0} (f : S → ℕ → LexemeStep S) → IsPlain f → (s v : S) (t : List ℕ) → Accepts f s v t → AreOctets t
accepted_octets f plain s v [] h = tt
accepted_octets f plain s v (c ∷ t) h = (
  plain.small s c (not_failed (f s c) (λ p. Accepts f p v t) v t h),
  rest_by (f s c) (λ p. Accepts f p v t) v t (λ p k. accepted_octets f plain p v t k) h,
)

-- a front of an accepted text doesn't end with an LF
open_by : {S : Type 0} (m : LexemeStep S) (Go : S → Type 0) (v : S) (c : ℕ) (t more : List ℕ) → (more ≡ [] → ⊥) → ((p : S) → m ≡ step.On p → (c == 10) ≡ false)
    → ((p : S) → Go p → ends_with_line t ≡ false) → AcceptsBy m Go v (t ++ more) → ends_with_line (c ∷ t) ≡ false
open_by step.Fail Go v c t more proper line k h = absurd h
open_by (step.On p) Go v c [] more proper line k h = line p refl
open_by (step.On p) Go v c (d ∷ t) more proper line k h = k p h
open_by (step.End p) Go v c t more proper line k h = absurd (more_before t more proper h.1)

accepted_open : {S : Type 0} (f : S → ℕ → LexemeStep S) → IsPlain f → (s v : S) (t more : List ℕ) → (more ≡ [] → ⊥) → Accepts f s v (t ++ more) → ends_with_line t ≡ false
accepted_open f plain s v [] more proper h = refl
accepted_open f plain s v (c ∷ t) more proper h =
    open_by (f s c) (λ p. Accepts f p v (t ++ more)) v c t more proper (λ p e. plain.on_line s p c e) (λ p k. accepted_open f plain p v t more proper k) h

stop_open : (t : List ℕ) → ends_with_line t ≡ false → NeedMore ≡ stop_of NeedMore t
stop_open [] e = refl
stop_open (c ∷ t) e = ap (λ (b : Bool). cond b WantsLiteral NeedMore) (sym e)

-- ---- octets that are read

found_by : {S : Type 0} (m : LexemeStep S) (go : S → Result (S × List ℕ) NoCommand) (Go : S → List ℕ → Type 0) (v : S) (b rest : List ℕ)
    → ((p : S) → go p ≡ Ok (v, rest) → (t : List ℕ) × Go p t × (b ≡ t ++ rest)) → stepped_to m go b ≡ Ok (v, rest)
    → (t : List ℕ) × AcceptsBy m (λ p. Go p t) v t × (b ≡ t ++ rest)
found_by step.Fail go Go v b rest k e = absurd cc
found_by (step.On p) go Go v b rest k e = k p e
found_by {S} (step.End p) go Go v b rest k e =
    let same : ◌≡◌ {A = S × List ℕ} (p, b) (v, rest) = cc in
    ([], (sym (ap (λ (q : S × List ℕ). q.0) same), refl), ap (λ (q : S × List ℕ). q.1) same)

accepted_found : {S : Type 0} (f : S → ℕ → LexemeStep S) (s v : S) (b rest : List ℕ) → read_from f s b ≡ Ok (v, rest) → (t : List ℕ) × Accepts f s v t × (b ≡ t ++ rest)
unfolding read_from
accepted_found f s v [] rest e = absurd cc
accepted_found f s v (c ∷ b) rest e =
    let x = found_by (f s c) (λ p. read_from f p b) (λ p t. Accepts f p v t) v b rest (λ p k. accepted_found f p v b rest k) e in
    (c ∷ x.0, x.1, ap (λ (u : List ℕ). c ∷ u) x.2)

-- ---- octets that stop

-- from each state that may come a text goes on
pub record IsAlive {S : Type 0} (f : S → ℕ → LexemeStep S) (Inv : S → Type 0) : Type 0 where
  pub keeps : (s p : S) (c : ℕ) → Inv s → f s c ≡ step.On p → Inv p
  pub some : (s : S) → Inv s → (v : S) × (t : List ℕ) × Accepts f s v t

accepts_on : {S : Type 0} (f : S → ℕ → LexemeStep S) (s p v : S) (c : ℕ) (t : List ℕ) → f s c ≡ step.On p → Accepts f p v t → Accepts f s v (c ∷ t)
accepts_on {S} f s p v c t e h = subst (λ (m : LexemeStep S). AcceptsBy m (λ q. Accepts f q v t) v t) (sym e) h

plain_octet : (c : ℕ) → fits_octet c ≡ true → plain_octets (c ∷ []) ≡ c ∷ []
plain_octet c e = plain_small (c ∷ []) (e, tt)

failed_not : {S : Type 0} (m : LexemeStep S) (p : S) → m ≡ step.On p → is_fail m ≡ true → ⊥
failed_not {S} m p e h = let g : is_fail {S = S} (step.On p) ≡ true = sym (ap is_fail e) ∙ h in cc

open_nonempty : {S : Type 0} (f : S → ℕ → LexemeStep S) (s v : S) (t : List ℕ) → Accepts f s v t → t ≡ [] → ⊥
open_nonempty f s v [] h e = h
open_nonempty f s v (c ∷ t) h e = some_cons c t e

stop_before : (e : NoCommand) (c : ℕ) (t : List ℕ) → (c == 10) ≡ false → e ≡ stop_of NeedMore t → e ≡ stop_of NeedMore (c ∷ t)
stop_before e c [] line h = h ∙ ap (λ (b : Bool). cond b WantsLiteral NeedMore) (sym line)
stop_before e c (d ∷ t) line h = h

open_on : {S : Type 0} (f : S → ℕ → LexemeStep S) → IsPlain f → (s p : S) (c : ℕ) (b : List ℕ) (e : NoCommand) → f s c ≡ step.On p → IsOpen (Accepts f p) NeedMore b e
    → IsOpen (Accepts f s) NeedMore (c ∷ b) e
open_on f plain s p c b e on o = record {
  value = o.value;
  text = c ∷ o.text;
  more = o.more;
  reads = accepts_on f s p o.value c (o.text ++ o.more) on o.reads;
  proper = o.proper;
  octets = ap (λ (u : List ℕ). u ++ plain_octets o.text) (plain_octet c (plain.small s c (failed_not (f s c) p on))) ∙ ap (λ (u : List ℕ). c ∷ u) o.octets;
  stop = stop_before e c o.text (plain.on_line s p c on) o.stop;
}

reads_on : {S : Type 0} (f : S → ℕ → LexemeStep S) (s p : S) (c : ℕ) (b : List ℕ) → f s c ≡ step.On p → read_from f s (c ∷ b) ≡ read_from f p b
unfolding read_from
reads_on {S} f s p c b e = ap (λ (m : LexemeStep S). stepped_to m (λ q. read_from f q b) b) e

reads_fail : {S : Type 0} (f : S → ℕ → LexemeStep S) (s : S) (c : ℕ) (b : List ℕ) → f s c ≡ step.Fail → read_from f s (c ∷ b) ≡ Err (Bad (suc (length b)))
unfolding read_from
reads_fail {S} f s c b e = ap (λ (m : LexemeStep S). stepped_to m (λ q. read_from f q b) b) e

reads_last : {S : Type 0} (f : S → ℕ → LexemeStep S) (s p : S) (c : ℕ) (b : List ℕ) → f s c ≡ step.End p → read_from f s (c ∷ b) ≡ Ok (p, b)
unfolding read_from
reads_last {S} f s p c b e = ap (λ (m : LexemeStep S). stepped_to m (λ q. read_from f q b) b) e

wrong_on : {S : Type 0} (f : S → ℕ → LexemeStep S) → IsPlain f → (s p : S) (c : ℕ) (b : List ℕ) (left : ℕ) → f s c ≡ step.On p → IsWrong (Accepts f p) (read_from f p) b left
    → IsWrong (Accepts f s) (read_from f s) (c ∷ b) left
wrong_on f plain s p c b left on o =
    let first = plain_octet c (plain.small s c (failed_not (f s c) p on)) in
    record {
      value = o.value;
      text = c ∷ o.text;
      more = o.more;
      octet = o.octet;
      rest = o.rest;
      reads = accepts_on f s p o.value c (o.text ++ o.more) on o.reads;
      proper = o.proper;
      whole = ap (λ (u : List ℕ). c ∷ u) o.whole ∙ ap (λ (u : List ℕ). (u ++ plain_octets o.text) ++ o.octet ∷ o.rest) (sym first);
      left_is = o.left_is;
      stays = λ r. ap (λ (u : List ℕ). read_from f s ((u ++ plain_octets o.text) ++ o.octet ∷ r)) first ∙ reads_on f s p c (plain_octets o.text ++ o.octet ∷ r) on ∙ o.stays r;
    }

wrong_first : {S : Type 0} (f : S → ℕ → LexemeStep S) (s v : S) (c : ℕ) (b t : List ℕ) (left : ℕ) → f s c ≡ step.Fail → Accepts f s v t → suc (length b) ≡ left
    → IsWrong (Accepts f s) (read_from f s) (c ∷ b) left
wrong_first f s v c b t left e h same = record {
  value = v;
  text = [];
  more = t;
  octet = c;
  rest = b;
  reads = h;
  proper = open_nonempty f s v t h;
  whole = refl;
  left_is = sym same;
  stays = λ r. reads_fail f s c r e;
}

pub lift_on : {S : Type 0} (f : S → ℕ → LexemeStep S) → IsPlain f → (s p : S) (c : ℕ) (b : List ℕ) (e : NoCommand) → f s c ≡ step.On p
    → Stopped (Accepts f p) (read_from f p) NeedMore b e → Stopped (Accepts f s) (read_from f s) NeedMore (c ∷ b) e
lift_on f plain s p c b NeedMore on o = open_on f plain s p c b NeedMore on o
lift_on f plain s p c b WantsLiteral on o = open_on f plain s p c b WantsLiteral on o
lift_on f plain s p c b (Bad left) on o = wrong_on f plain s p c b left on o

failed_stop : {S : Type 0} (f : S → ℕ → LexemeStep S) (s v : S) (c : ℕ) (b t : List ℕ) (e : NoCommand) → f s c ≡ step.Fail → Accepts f s v t
    → ◌≡◌ {A = Result (S × List ℕ) NoCommand} (Err (Bad (suc (length b)))) (Err e)
    → Stopped (Accepts f s) (read_from f s) NeedMore (c ∷ b) e
failed_stop f s v c b t NeedMore m h e = absurd cc
failed_stop f s v c b t WantsLiteral m h e = absurd cc
failed_stop f s v c b t (Bad left) m h e = let same : suc (length b) ≡ left = cc in wrong_first f s v c b t left m h same

ended_stop : {S P : Type 0} (v : S) (b : List ℕ) (e : NoCommand) → ◌≡◌ {A = Result (S × List ℕ) NoCommand} (Ok (v, b)) (Err e) → P
ended_stop v b e h = absurd cc

nothing_stop : {S : Type 0} (f : S → ℕ → LexemeStep S) (s v : S) (t : List ℕ) (e : NoCommand) → Accepts f s v t → ◌≡◌ {A = Result (S × List ℕ) NoCommand} (Err NeedMore) (Err e)
    → Stopped (Accepts f s) (read_from f s) NeedMore [] e
nothing_stop f s v t NeedMore h e = record {
  value = v;
  text = [];
  more = t;
  reads = h;
  proper = open_nonempty f s v t h;
  octets = refl;
  stop = refl;
}
nothing_stop f s v t WantsLiteral h e = absurd cc
nothing_stop f s v t (Bad left) h e = absurd cc

stopped_by : {S : Type 0} (f : S → ℕ → LexemeStep S) (Inv : S → Type 0) → IsPlain f → IsAlive f Inv → (s : S) → Inv s → (c : ℕ) (b : List ℕ) (e : NoCommand) (m : LexemeStep S)
    → f s c ≡ m
    → ((p : S) → Inv p → read_from f p b ≡ Err e → Stopped (Accepts f p) (read_from f p) NeedMore b e) → read_from f s (c ∷ b) ≡ Err e
    → Stopped (Accepts f s) (read_from f s) NeedMore (c ∷ b) e
stopped_by f Inv plain alive s inv c b e step.Fail g k h = let x = alive.some s inv in failed_stop f s x.0 c b x.1 e g x.2 (sym (reads_fail f s c b g) ∙ h)
stopped_by f Inv plain alive s inv c b e (step.On p) g k h = lift_on f plain s p c b e g (k p (alive.keeps s p c inv g) (sym (reads_on f s p c b g) ∙ h))
stopped_by f Inv plain alive s inv c b e (step.End p) g k h = ended_stop p b e (sym (reads_last f s p c b g) ∙ h)

accepted_stopped : {S : Type 0} (f : S → ℕ → LexemeStep S) (Inv : S → Type 0) → IsPlain f → IsAlive f Inv → (s : S) → Inv s → (b : List ℕ) (e : NoCommand)
    → read_from f s b ≡ Err e → Stopped (Accepts f s) (read_from f s) NeedMore b e
unfolding read_from
accepted_stopped f Inv plain alive s inv [] e h = let x = alive.some s inv in nothing_stop f s x.0 x.1 e x.2 h
accepted_stopped f Inv plain alive s inv (c ∷ b) e h =
    stopped_by f Inv plain alive s inv c b e (f s c) refl (λ p i g. accepted_stopped f Inv plain alive p i b e g) h

-- what reads a lexeme octet by octet reads the texts that are accepted
pub lexeme_reader : {S : Type 0} (f : S → ℕ → LexemeStep S) (Inv : S → Type 0) → IsPlain f → IsAlive f Inv → (s : S) → Inv s → IsReader NeedMore (Accepts f s) (read_from f s)
lexeme_reader f Inv plain alive s inv = record {
  whole = λ v t rest h.
      ap (λ (u : List ℕ). read_from f s (u ++ rest)) (plain_small t (accepted_octets f plain s v t h)) ∙ accepted_whole f s v t rest h;
  short = λ v t more h proper.
      ap (read_from f s) (plain_small t (each_parts fits_octet t more (accepted_octets f plain s v (t ++ more) h)).0)
      ∙ accepted_short f s v t more proper h ∙ ap (λ (e : NoCommand). Err e) (stop_open t (accepted_open f plain s v t more proper h));
  found = λ b v rest are e.
      let x = accepted_found f s v b rest e in
      (x.0, x.1, x.2 ∙ ap (λ (u : List ℕ). u ++ rest) (sym (plain_small x.0 (accepted_octets f plain s v x.0 x.1))));
  stopped = λ b e are h. accepted_stopped f Inv plain alive s inv b e h;
  some = alive.some s inv;
}

-- ---- how a lexeme ends

last_by : {S : Type 0} (m : LexemeStep S) (Go : S → Type 0) (v : S) (c : ℕ) (t : List ℕ) (line : Bool) → ((p : S) → m ≡ step.End p → (c == 10) ≡ line)
    → ((p : S) → Go p → (t ≡ [] → ⊥) × (ends_with_line t ≡ line)) → AcceptsBy m Go v t → ends_with_line (c ∷ t) ≡ line
last_by step.Fail Go v c t line last k h = absurd h
last_by (step.On p) Go v c [] line last k h = absurd ((k p h).0 refl)
last_by (step.On p) Go v c (d ∷ t) line last k h = (k p h).1
last_by (step.End p) Go v c t line last k h = ap (λ (u : List ℕ). ends_with_line (c ∷ u)) h.1 ∙ last p refl

-- an accepted text ends as the octets do that end the lexeme
pub accepted_last : {S : Type 0} (f : S → ℕ → LexemeStep S) (line : Bool) → ((s p : S) (c : ℕ) → f s c ≡ step.End p → (c == 10) ≡ line)
    → (s v : S) (t : List ℕ) → Accepts f s v t → ends_with_line t ≡ line
accepted_last f line last s v [] h = absurd h
accepted_last f line last s v (c ∷ t) h =
    last_by (f s c) (λ p. Accepts f p v t) v c t line (λ p e. last s p c e) (λ p k. (open_nonempty f p v t k, accepted_last f line last p v t k)) h
