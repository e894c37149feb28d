-- The bodies that are kept were told by fetches.
use Rattle.std.proofs.Common.{arith, ◌≡◌, ◌≢◌, ◌⊎◌, ◌-◌, ◌++◌, ℕ, zero, suc, Bool, true, false, cond, nat_eq, List, [], ◌∷◌, take, Option, Some, None, Result, Ok, Err}
use Rattle.std.proofs.Common.{refl, sym, ◌∙◌, ap, subst, inl, inr}
use Rattle.std.proofs.lemmas.Bool.Decides.{nat_tests}
use Rattle.std.specs.Map.{lookup_entry, remove_entry}
use Rattle.std.specs.Option.{option_map_or}
use Rattle.gate_world.specs.declared.event.Event.{Event}
use Rattle.email_bodies.specs.Asking.{BodyAsk}
use Rattle.email_bodies.specs.Keeping.{Bodies, after_use, with_body}
use Rattle.email_bodies.specs.declared.cache.TheConstants.{MAX_BODIES}
use Rattle.email_bodies.specs.declared.source.MessagePlace.{MessagePlace}
use Rattle.imap_exchange.specs.declared.link_end.LinkEnd.{LinkEnd}
use Rattle.imap_exchange.specs.declared.link_end.LinkEnd.TheVariants as end
use Rattle.told_mail.specs.Told.{Told}
use Rattle.gate_machine.specs.Beginning.{Readies, Ready, Restart, LacksRoom, RunsRound, Settles, Same, Moves, Spends, Lacks, AsksThen, Dials, PreparesMail}
use Rattle.gate_machine.specs.Fetching.{AsksBody, IsKept, IsTold, Ends, HasEnded, AsksBodies, NoBodies, MoreBodies, LacksBody, Unasked, Asked, NotKept, CallsAsk}
use Rattle.gate_machine.specs.Fetching.{AllAsked, RunsShort}
use Rattle.gate_machine.specs.History.{KnownMail}
use Rattle.gate_machine.specs.KeptBodies.{IsAmong, KeepsBody, TellsBody, TellBody, CallsTell}
use Rattle.gate_machine.specs.Machine.{MachineState}
use Rattle.gate_machine.specs.Progress.{Progress, machine_by}

abbrev Body : Type 0
Body = ℕ × List ℕ

-- ---- bodies that are kept

not_found : (e : Body) → None ≡ Some e → ⊥
not_found e is = cc

same_number : (m n : ℕ) → nat_eq m n ≡ true → m ≡ n
same_number m n is = grind (arith, nat_tests)

one_found : (x e : Body) → Some x ≡ Some e → e ≡ x
one_found x e is = cc

-- the one that is found is of the Email
key_of : (email : ℕ) (es : Bodies) (e : Body) → lookup_entry (nat_eq email) es ≡ Some e → e.0 ≡ email
key_of email [] e is = absurd (not_found e is)
key_of email (x ∷ xs) e is =
    elim (nat_eq email x.0) as (λ t. nat_eq email x.0 ≡ t → cond t (Some x) (lookup_entry (nat_eq email) xs) ≡ Some e → e.0 ≡ email) [
      | true ↦ λ same here. ap (λ (f : Body). f.0) (one_found x e here) ∙ sym (same_number email x.0 same)
      | false ↦ λ other more. key_of email xs e more
    ] refl is

module _ (b : Body) where
  -- what is left is of what was there
  among_rest : (test : ℕ → Bool) (bodies : Bodies) → IsAmong b (remove_entry test bodies) → IsAmong b bodies
  among_rest test [] among = among
  among_rest test (x ∷ xs) among = elim (test x.0) as (λ t. IsAmong b (cond t xs (x ∷ remove_entry test xs)) → IsAmong b (x ∷ xs)) [
    | true ↦ λ more. inr more
    | false ↦ λ either. elim either [ inl same ↦ inl same | inr more ↦ inr (among_rest test xs more) ]
  ] among

  -- so is what is found
  among_found : (test : ℕ → Bool) (bodies : Bodies) (e : Body) → lookup_entry test bodies ≡ Some e → b ≡ e → IsAmong b bodies
  among_found test [] e is same = absurd (not_found e is)
  among_found test (x ∷ xs) e is same = elim (test x.0) as (λ t. cond t (Some x) (lookup_entry test xs) ≡ Some e → IsAmong b (x ∷ xs)) [
    | true ↦ λ here. inl (same ∙ one_found x e here)
    | false ↦ λ more. inr (among_found test xs e more same)
  ] is

  among_first : (n : ℕ) (bodies : Bodies) → IsAmong b (take n bodies) → IsAmong b bodies
  among_first zero bodies among = absurd among
  among_first (suc n) [] among = among
  among_first (suc n) (x ∷ xs) (inl same) = inl same
  among_first (suc n) (x ∷ xs) (inr more) = inr (among_first n xs more)

  -- one that is used stays
  among_used : (email : ℕ) (bodies : Bodies) → IsAmong b (after_use email bodies) → IsAmong b bodies
  among_used email bodies among = by (lookup_entry (nat_eq email) bodies) refl among
    where
      by : (found : Option Body) → lookup_entry (nat_eq email) bodies ≡ found
          → IsAmong b (option_map_or (λ e. e ∷ remove_entry (nat_eq email) bodies) found bodies) → IsAmong b bodies
      by None is more = more
      by (Some e) is (inl same) = among_found (nat_eq email) bodies e is same
      by (Some e) is (inr more) = among_rest (nat_eq email) bodies more

  -- one that is put is the new one, or was there
  among_put : (email : ℕ) (octets : List ℕ) (bodies : Bodies) → IsAmong b (with_body email octets bodies) → (b ≡ (email, octets)) ⊎ IsAmong b bodies
  among_put email octets bodies among = by (lookup_entry (nat_eq email) bodies) refl among
    where
      by : (found : Option Body) → lookup_entry (nat_eq email) bodies ≡ found
          → IsAmong b (option_map_or (λ e. (e.0, octets) ∷ remove_entry (nat_eq email) bodies) found ((email, octets) ∷ take (MAX_BODIES - 1) bodies))
          → (b ≡ (email, octets)) ⊎ IsAmong b bodies
      by None is (inl same) = inl same
      by None is (inr more) = inr (among_first (MAX_BODIES - 1) bodies more)
      by (Some e) is (inl same) = inl (same ∙ ap (λ (n : ℕ). let f : Body = (n, octets) in f) (key_of email bodies e is))
      by (Some e) is (inr more) = inr (among_rest (nat_eq email) bodies more)

  -- ---- machines

  same_known : (j k : KnownMail) → Some j ≡ Some k → k ≡ j
  same_known j k is = cc

  none_known : (k : KnownMail) → None ≡ Some k → ⊥
  none_known k is = cc

  -- what a machine keeps that knows this
  keeps_of : (m : MachineState) (j : KnownMail) → m.known ≡ Some j → KeepsBody m b → IsAmong b j.bodies
  keeps_of m j is (k, known, among) = subst (λ (l : KnownMail). IsAmong b l.bodies) (same_known j k (sym is ∙ known)) among

  keeps_none : (m : MachineState) → m.known ≡ None → KeepsBody m b → ⊥
  keeps_none m none (k, known, among) = none_known k (sym none ∙ known)

  keeps_same : (m n : MachineState) → n ≡ m → KeepsBody n b → KeepsBody m b
  keeps_same m n is keeps = subst (λ (l : MachineState). KeepsBody l b) is keeps

  keeps_by : (result : Result (Unit {0}) LinkEnd) (m : MachineState) → KeepsBody (machine_by result m) b → KeepsBody m b
  keeps_by (Ok u) m keeps = keeps
  keeps_by (Err end.Lost) m keeps = keeps
  keeps_by (Err (end.Bad at)) m keeps = keeps
  keeps_by (Err end.Stray) m keeps = keeps
  keeps_by (Err end.Bye) m keeps = keeps
  keeps_by (Err end.TooMuch) m keeps = keeps
  keeps_by (Err end.Refused) m keeps = keeps
  keeps_by (Err end.NoQresync) m keeps = keeps
  keeps_by (Err end.Lacks) m keeps = keeps
  keeps_by (Err end.Memory) m keeps = absurd (keeps_none (machine_by (Err end.Memory) m) refl keeps)

  -- ---- the way to the mail

  keeps_readied : {before : MachineState} {events : List Event} {after : Progress} → Readies before events after → KeepsBody after.machine b → KeepsBody before b
  keeps_readied {before} {events} {after} (Ready k known none is) keeps = keeps_same before after.machine (ap (λ (p : Progress). p.machine) is) keeps
  keeps_readied {before} {events} {after} (Restart epoch none word is) keeps = absurd (keeps_of after.machine _ (ap (λ (p : Progress). p.machine.known) is) keeps)
  keeps_readied {before} {events} {after} (LacksRoom epoch none word is) keeps = absurd (keeps_none after.machine (ap (λ (p : Progress). p.machine.known) is) keeps)

  keeps_dialed : {user password : List ℕ} {before after : Progress} {events : List Event} → Dials user password before events after → KeepsBody after.machine b
      → KeepsBody before.machine b
  keeps_dialed {before = before} {after = after} dials keeps =
      keeps_by dials.result before.machine (keeps_same (machine_by dials.result before.machine) after.machine (ap (λ (p : Progress). p.machine) dials.after_is) keeps)

  keeps_asked : {before after : Progress} {events : List Event} → RunsRound before events after → KeepsBody after.machine b → KeepsBody before.machine b
  keeps_asked {before} {after} asks keeps =
      let told : KnownMail = record asks.known { told = asks.told } in
      let heard : MachineState = record before.machine { known = Some told } in
      let known : KeepsBody heard b = keeps_by asks.result heard
      (keeps_same (machine_by asks.result heard) after.machine (ap (λ (p : Progress). p.machine) asks.after_is) keeps) in
      (asks.known, asks.ready, keeps_of heard told refl known)

  keeps_settled : {before after : Progress} {events : List Event} → Settles before events after → KeepsBody after.machine b → KeepsBody before.machine b
  keeps_settled {before} {after} (Same k stands known same none is) keeps = keeps_same before.machine after.machine (ap (λ (p : Progress). p.machine) is) keeps
  keeps_settled {before} {after} (Moves new next goes room none is) keeps =
      (new.known, new.ready, keeps_of after.machine _ (ap (λ (p : Progress). p.machine.known) is) keeps)
  keeps_settled {before} {after} (Spends new spent none is) keeps = absurd (keeps_none after.machine (ap (λ (p : Progress). p.machine.known) is) keeps)
  keeps_settled {before} {after} (Lacks stands none is) keeps = absurd (keeps_none after.machine (ap (λ (p : Progress). p.machine.known) is) keeps)

  keeps_asking : {before after : Progress} {events : List Event} → AsksThen before events after → KeepsBody after.machine b → KeepsBody before.machine b
  keeps_asking {before} {after} a keeps =
      let told : KeepsBody a.told.machine b = elim a.settles [
        | inl skips ↦ keeps_same a.told.machine after.machine (ap (λ (p : Progress). p.machine) skips.2) keeps
        | inr settles ↦ keeps_settled settles keeps
      ] in
      elim a.asks [
        | inl skips ↦ keeps_same before.machine a.told.machine (ap (λ (p : Progress). p.machine) skips.2) told
        | inr asks ↦ keeps_asked asks told
      ]

  -- on the whole way no body comes
  keeps_on_way : (user password : List ℕ) (before : MachineState) (events : List Event) (after : Progress) → PreparesMail user password before events after
      → KeepsBody after.machine b → KeepsBody before b
  keeps_on_way user password before events after p keeps =
      let connected : KeepsBody p.connected.machine b = keeps_asking p.asks keeps in
      let ready : KeepsBody p.ready.machine b = elim p.dials [
        | inl skips ↦ keeps_same p.ready.machine p.connected.machine (ap (λ (q : Progress). q.machine) skips.2) connected
        | inr dials ↦ keeps_dialed dials connected
      ] in
      keeps_readied p.readies ready

  -- ---- bodies that are asked

  keeps_body : {message : MessagePlace} {before after : Progress} {body : Option (List ℕ)} {events : List Event} (asks : AsksBody message before body events after)
      → KeepsBody after.machine b → KeepsBody before.machine b ⊎ TellsBody asks b
  keeps_body {message = message} {after = after} (IsKept octets kept body_is none is) keeps =
      inl (kept.known, kept.ready, among_used message.email kept.known.bodies (keeps_of after.machine _ (ap (λ (p : Progress). p.machine.known) is) keeps))
  keeps_body {message = message} {after = after} (IsTold octets asks body_is is) keeps =
      elim (among_put message.email octets asks.kept.known.bodies (keeps_of after.machine _ (ap (λ (p : Progress). p.machine.known) is) keeps)) [
        | inl same ↦ inr same
        | inr more ↦ inl (asks.kept.known, asks.kept.ready, more)
      ]
  keeps_body {after = after} (Ends e asks other body_is is) keeps =
      inl (asks.kept.known, asks.kept.ready, keeps_of after.machine _ (ap (λ (p : Progress). p.machine.known) is) keeps)
  keeps_body {before = before} {after = after} (HasEnded kept ended body_is none is) keeps =
      inl (keeps_same before.machine after.machine (ap (λ (p : Progress). p.machine) is) keeps)

  keeps_bodies : {before after : Progress} {asks : List BodyAsk} {events : List Event} (bodies : AsksBodies before asks events after) → KeepsBody after.machine b
      → KeepsBody before.machine b ⊎ TellBody bodies b
  keeps_bodies NoBodies keeps = inl keeps
  keeps_bodies (MoreBodies next bodies) keeps = elim (keeps_body next.asks keeps) [
    | inr tells ↦ inr (inr tells)
    | inl mid ↦ elim (keeps_bodies bodies mid) [ inl first ↦ inl first | inr told ↦ inr (inl told) ]
  ]

  keeps_lacking : {message : MessagePlace} {before after : Progress} {events : List Event} → LacksBody message before events after → KeepsBody after.machine b → ⊥
  keeps_lacking {after = after} (Unasked none is) keeps = keeps_none after.machine (ap (λ (p : Progress). p.machine.known) is) keeps
  keeps_lacking {after = after} (Asked asks is) keeps = keeps_none after.machine (ap (λ (p : Progress). p.machine.known) is) keeps
  keeps_lacking {after = after} (NotKept octets asks is) keeps = keeps_none after.machine (ap (λ (p : Progress). p.machine.known) is) keeps

  keeps_calls : {before after : Progress} {asks : List BodyAsk} {events : List Event} (calls : CallsAsk before asks events after) → KeepsBody after.machine b
      → KeepsBody before.machine b ⊎ CallsTell calls b
  keeps_calls (AllAsked bodies) keeps = keeps_bodies bodies keeps
  keeps_calls (RunsShort short) keeps = absurd (keeps_lacking short.lacks keeps)

-- a body that is kept once the mail is prepared was kept before
pub prepared_kept : (user password : List ℕ) (before : MachineState) (events : List Event) (after : Progress) → PreparesMail user password before events after
    → (b : ℕ × List ℕ) → KeepsBody after.machine b → KeepsBody before b
prepared_kept user password before events after prepares b keeps = keeps_on_way b user password before events after prepares keeps

-- one that is kept after the calls of a request was kept before, or a fetch for them told it
pub calls_kept : (before : Progress) (asks : List BodyAsk) (events : List Event) (after : Progress) (calls : CallsAsk before asks events after)
    → (b : ℕ × List ℕ) → KeepsBody after.machine b → KeepsBody before.machine b ⊎ CallsTell calls b
calls_kept before asks events after calls b keeps = keeps_calls b calls keeps
