-- The bodies that are kept were told, from client to client.
use Rattle.std.proofs.Common.{◌≡◌, ◌⊎◌, ℕ, List, Option, Some, None, Result, sym, ◌∙◌, ap, subst, inl, inr}
use Rattle.gate_world.specs.declared.event.Event.{Event}
use Rattle.email_bodies.specs.Asking.{BodyAsk}
use Rattle.serde_json.specs.Data.{Data}
use Rattle.result_references.specs.Call.{CallData}
use Rattle.jmap_arguments.specs.declared.method_error.MethodError.{MethodError}
use Rattle.jmap_arguments.specs.declared.using.Using.{Using}
use Rattle.set_arguments.specs.declared.set_method.SetMethod.{SetMethod}
use Rattle.set_calls.specs.Calls.{SetCall}
use Rattle.set_jobs.specs.declared.done.Done.{Done}
use Rattle.set_order.specs.Ordered.{Item}
use Rattle.gate_changes.specs.Answering as answering
use Rattle.gate_changes.specs.Answering.{DoesChange, LacksAnswer}
use Rattle.gate_changes.specs.Changing.{ChangesMail, LacksChange}
use Rattle.gate_changes.specs.ToldBodies.{ChangeTells, LacksChangeTells}
use Rattle.gate_calls.specs.Calling.{Asked, CallsState, DoesCall, Reads, Changes, DoesCalls, NoCalls, MoreCalls, ReadsInVain, ChangesInVain, LacksNext, AfterLast, InCall, LacksCalls}
use Rattle.gate_calls.specs.ItemChecks.{item_checks}
use Rattle.gate_calls.specs.Mailings.{Mailing}
use Rattle.gate_calls.specs.ToldBodies.{CallTells, DoneTell, LacksTells, LacksSetTells, SetTells}
use Rattle.gate_machine.specs.Beginning.{PreparesMail}
use Rattle.gate_machine.specs.Fetching.{AllAsked, CallsAsk}
use Rattle.gate_machine.specs.History.{KnownMail}
use Rattle.gate_machine.specs.KeptBodies.{CallsTell, KeepsBody}
use Rattle.gate_machine.specs.Machine.{MachineState}
use Rattle.gate_machine.specs.Progress.{Progress}
use Rattle.gate_serving.specs.Answers.{Answer}
use Rattle.gate_serving.specs.Doing.{Does, Comes, RunsOut}
use Rattle.gate_serving.specs.KeptBodies.{DoesTell, ReplyTells, RunTells, SegmentTells, WorkTells}
use Rattle.gate_serving.specs.declared.door.Door.{Door}
use Rattle.gate_serving.specs.declared.outcomes.ClientOutcome.{ClientOutcome}
use Rattle.gate_serving.specs.GateState.{GateState}
use Rattle.gate_serving.specs.Requests.{Account, Asking, Calls, Problem, Session, Upload, Download, Refused}
use Rattle.gate_serving.specs.Run.{Run, Begun, Then}
use Rattle.gate_serving.specs.Segment.{Replies, Answered, LacksReading, LacksAnswering, Segment, NoneComes, NotAccepted, Left, Unasked, Replied}
use Rattle.gate_serving.specs.RequestWork.{RequestWork, NoMail, WithMail}

-- what is proved of a request's way to the mail, and of its calls
abbrev pub PreparedLaw : Type 0
PreparedLaw = (user password : List ℕ) (before : MachineState) (events : List Event) (after : Progress) → PreparesMail user password before events after
    → (b : ℕ × List ℕ) → KeepsBody after.machine b → KeepsBody before b

abbrev pub CallsLaw : Type 0
CallsLaw = (before : Progress) (asks : List BodyAsk) (events : List Event) (after : Progress) (calls : CallsAsk before asks events after)
    → (b : ℕ × List ℕ) → KeepsBody after.machine b → KeepsBody before.machine b ⊎ CallsTell calls b

-- of calls that change mail: they keep what was kept, and what a fetch for an import told
pub record ChangesLaw : Type 0 where
  pub changes : (call : SetCall) (items : List Item) (before : Progress) (result : Result (List (Item × Done)) MethodError) (events : List Event) (after : Progress)
      (does : ChangesMail call items before result events after) → (b : ℕ × List ℕ) → KeepsBody after.machine b → KeepsBody before.machine b ⊎ ChangeTells does b
  pub lacks : (call : SetCall) (items : List Item) (before : Progress) (events : List Event) (after : Progress) (lacks : LacksChange call items before events after)
      → (b : ℕ × List ℕ) → KeepsBody after.machine b → KeepsBody before.machine b ⊎ LacksChangeTells lacks b

none_known : (k : KnownMail) → None ≡ Some k → ⊥
none_known k is = cc

module _ (law : PreparedLaw) (calls : CallsLaw) (changing : ChangesLaw) (b : ℕ × List ℕ) where
  keeps_same : (m n : MachineState) → n ≡ m → KeepsBody n b → KeepsBody m b
  keeps_same m n is keeps = subst (λ (l : MachineState). KeepsBody l b) is keeps

  keeps_none : (m : MachineState) → m.known ≡ None → KeepsBody m b → ⊥
  keeps_none m none (k, known, among) = none_known k (sym none ∙ known)

  nothing_keeps : (p q : Progress) → q ≡ p → KeepsBody q.machine b → KeepsBody p.machine b
  nothing_keeps p q is keeps = keeps_same p.machine q.machine (ap (λ (x : Progress). x.machine) is) keeps

  -- ---- calls

  change_keeps : {uploads : List (List ℕ)} {m : SetMethod} {d : Data} {mail : Mailing} {s t : CallsState} {result : Result Data MethodError} {events : List Event}
      (does : DoesChange (item_checks uploads) m d mail s result events t) → KeepsBody t.progress.machine b → KeepsBody s.progress.machine b ⊎ SetTells does b
  change_keeps {s = s} {t = t} (answering.Refused e is result_is none same) keeps =
      inl (nothing_keeps s.progress t.progress (ap (λ (x : CallsState). x.progress) same) keeps)
  change_keeps {s = s} {t = t} (answering.Untold a e is mail_is result_is none same) keeps =
      inl (nothing_keeps s.progress t.progress (ap (λ (x : CallsState). x.progress) same) keeps)
  change_keeps {s = s} {t = t} (answering.Asked a h is mail_is (answering.Mismatch current result_is none same)) keeps =
      inl (nothing_keeps s.progress t.progress (ap (λ (x : CallsState). x.progress) same) keeps)
  change_keeps {s = s} {t = t} {events = events} (answering.Asked a h is mail_is (answering.Changes items came current items_are does answers)) keeps =
      changing.changes _ items s.progress came events t.progress does b keeps

  lacking_keeps : {uploads : List (List ℕ)} {m : SetMethod} {d : Data} {mail : Mailing} {s : CallsState} {events : List Event} {q : Progress} (lacks : LacksAnswer (item_checks uploads) m d mail s events q)
      → KeepsBody q.machine b → KeepsBody s.progress.machine b ⊎ LacksSetTells lacks b
  lacking_keeps {s = s} {q = q} (answering.Unread none same) keeps = inl (nothing_keeps s.progress q same keeps)
  lacking_keeps {s = s} {q = q} (answering.LacksIn a h is mail_is (answering.BeforeItems none same)) keeps = inl (nothing_keeps s.progress q same keeps)
  lacking_keeps {s = s} {events = events} {q = q} (answering.LacksIn a h is mail_is (answering.Meanwhile items current items_are lacks)) keeps =
      changing.lacks _ items s.progress events q lacks b keeps
  lacking_keeps {s = s} {events = events} {q = q} (answering.LacksIn a h is mail_is (answering.Unanswered items came current items_are does)) keeps =
      changing.changes _ items s.progress came events q does b keeps

  call_keeps : {uses : Using} {uploads : List (List ℕ)} {earlier : List CallData} {call : CallData} {s t : CallsState} {asks : List Asked} {result : Result Data MethodError}
      {events : List Event} (does : DoesCall uses uploads earlier call s asks result events t) → KeepsBody t.progress.machine b
      → KeepsBody s.progress.machine b ⊎ CallTells does b
  call_keeps {s = s} {t = t} {events = events} (Reads bodies answers asked is created) keeps = calls s.progress bodies events t.progress (AllAsked asked) b keeps
  call_keeps (Changes m d h named resolved told does asks_are) keeps = change_keeps does keeps

  done_keep : {uses : Using} {uploads : List (List ℕ)} {s t : CallsState} {cs responses : List CallData} {asks : List Asked} {events : List Event}
      (does : DoesCalls uses uploads s cs asks responses events t) → KeepsBody t.progress.machine b → KeepsBody s.progress.machine b ⊎ DoneTell does b
  done_keep NoCalls keeps = inl keeps
  done_keep (MoreCalls next rest) keeps = elim (call_keeps next.does keeps) [
    | inr told ↦ inr (inr told)
    | inl mid ↦ elim (done_keep rest mid) [ inl first ↦ inl first | inr told ↦ inr (inl told) ]
  ]

  next_keeps : {uses : Using} {uploads : List (List ℕ)} {earlier later : List CallData} {mid : CallsState} {events : List Event} {q : Progress}
      (lacks : LacksNext uses uploads earlier mid events q later) → KeepsBody q.machine b → KeepsBody mid.progress.machine b ⊎ LacksTells lacks b
  next_keeps {mid = mid} {q = q} (AfterLast none is) keeps = inl (keeps_same mid.progress.machine q.machine (ap (λ (p : Progress). p.machine) is) keeps)
  next_keeps {mid = mid} {events = events} {q = q} (InCall (ReadsInVain tried asked due)) keeps = calls mid.progress tried events q asked b keeps
  next_keeps (InCall (ChangesInVain m d h named resolved told lacks)) keeps = lacking_keeps lacks keeps

  lacks_keep : {uses : Using} {uploads : List (List ℕ)} {cs : List CallData} {s : CallsState} {events : List Event} {q : Progress}
      (lacks : LacksCalls uses uploads s cs events q) → KeepsBody q.machine b
      → KeepsBody s.progress.machine b ⊎ (DoneTell lacks.does b ⊎ LacksTells lacks.lacks b)
  lacks_keep lacks keeps = elim (next_keeps lacks.lacks keeps) [
    | inr told ↦ inr (inr told)
    | inl mid ↦ elim (done_keep lacks.does mid) [ inl first ↦ inl first | inr told ↦ inr (inl told) ]
  ]

  -- ---- the work

  does_keep : (account : Account) (uploads : List (List ℕ)) (asking : Asking) (p : Progress) (events : List Event) (q : Progress) (came : Option Answer)
      (does : Does account uploads asking p events q came) → KeepsBody q.machine b → KeepsBody p.machine b ⊎ DoesTell asking does b
  does_keep account uploads (Calls request) p events q came (Comes asks answer does) keeps =
      done_keep does.does (nothing_keeps does.done.progress q does.after_is keeps)
  does_keep account uploads (Problem e) p events q came (Comes asks answer does) keeps = inl (nothing_keeps p q does.after_is keeps)
  does_keep account uploads Session p events q came (Comes asks answer does) keeps = inl (nothing_keeps p q does.after_is keeps)
  does_keep account uploads (Upload media octets) p events q came (Comes asks answer does) keeps = inl (nothing_keeps p q does.after_is keeps)
  does_keep account uploads (Download blob media) p events q came (Comes asks answer does) keeps = calls p does.bodies events q (AllAsked does.asked) b keeps
  does_keep account uploads (Refused refusal) p events q came (Comes asks answer does) keeps = inl (nothing_keeps p q does.after_is keeps)
  does_keep account uploads (Calls request) p events q came (RunsOut lacks) keeps = lacks_keep lacks keeps
  does_keep account uploads (Problem e) p events q came (RunsOut lacks) keeps = inl (nothing_keeps p q lacks.1 keeps)
  does_keep account uploads Session p events q came (RunsOut lacks) keeps = inl (nothing_keeps p q lacks.1 keeps)
  does_keep account uploads (Upload media octets) p events q came (RunsOut lacks) keeps = inl (nothing_keeps p q lacks.1 keeps)
  does_keep account uploads (Download blob media) p events q came (RunsOut lacks) keeps = calls p lacks.tried events q lacks.asked b keeps
  does_keep account uploads (Refused refusal) p events q came (RunsOut lacks) keeps = inl (nothing_keeps p q lacks.1 keeps)

  work_keeps : {account : Account} {uploads : List (List ℕ)} {before : MachineState} {asking : Asking} {events : List Event} {came : Option Answer} {after : Progress}
      (work : RequestWork account uploads before asking events came after) → KeepsBody after.machine b → KeepsBody before b ⊎ WorkTells work b
  work_keeps {before = before} {after = after} (NoMail apart does none is) keeps = inl (keeps_same before after.machine (ap (λ (p : Progress). p.machine) is) keeps)
  work_keeps {account} {uploads} {before} {asking} {came = came} {after = after} (WithMail needs work) keeps =
      elim (does_keep account uploads asking work.begun work.doing work.answered came work.does
      (keeps_same work.answered.machine after.machine (ap (λ (p : Progress). p.machine) work.after_is) keeps)) [
        | inl begun ↦ inl (law account.user account.password before work.beginning work.begun work.prepares b begun)
        | inr told ↦ inr told
      ]

  -- ---- clients

  replies_keep : {door : Door} {account : Account} {before after : GateState} {events : List Event} {text : List ℕ} (replies : Replies door account before events text after)
      → KeepsBody after.machine b → KeepsBody before.machine b ⊎ ReplyTells replies b
  replies_keep {after = after} (Answered a) keeps = work_keeps a.work (keeps_same a.done.machine after.machine a.machine_is keeps)
  replies_keep {after = after} (LacksReading reads text_is is) keeps = absurd (keeps_none after.machine (ap (λ (s : GateState). s.machine.known) is) keeps)
  replies_keep {after = after} (LacksAnswering a) keeps = absurd (keeps_none after.machine (ap (λ (m : MachineState). m.known) a.machine_is) keeps)

  same_state : {before after : GateState} → after ≡ before → KeepsBody after.machine b → KeepsBody before.machine b
  same_state {before} {after} is keeps = keeps_same before.machine after.machine (ap (λ (s : GateState). s.machine) is) keeps

  segment_keeps : {door : Door} {account : Account} {before after : GateState} {events : List Event} {how : ClientOutcome} (segment : Segment door account before events how after)
      → KeepsBody after.machine b → KeepsBody before.machine b ⊎ SegmentTells segment b
  segment_keeps (NoneComes is how_is same) keeps = inl (same_state same keeps)
  segment_keeps (NotAccepted is how_is same) keeps = inl (same_state same keeps)
  segment_keeps (Left asked is reads how_is same) keeps = inl (same_state same keeps)
  segment_keeps (Unasked asked is reads how_is same) keeps = inl (same_state same keeps)
  segment_keeps (Replied a) keeps = replies_keep a.replies keeps

  run_keeps : {door : Door} {account : Account} {before after : GateState} {events : List Event} {went : List ClientOutcome} (run : Run door account before events went after)
      → KeepsBody after.machine b → KeepsBody before.machine b ⊎ RunTells run b
  run_keeps Begun keeps = inl keeps
  run_keeps (Then next run) keeps = elim (segment_keeps next.segment keeps) [
    | inr told ↦ inr (inr told)
    | inl mid ↦ elim (run_keeps run mid) [ inl first ↦ inl first | inr told ↦ inr (inl told) ]
  ]

-- a body that is kept after a run was kept before it, or a fetch in it told it
pub bodies_told : PreparedLaw → CallsLaw → ChangesLaw → (door : Door) (account : Account) (before after : GateState) (events : List Event) (went : List ClientOutcome)
    (run : Run door account before events went after) (b : ℕ × List ℕ) → KeepsBody after.machine b → KeepsBody before.machine b ⊎ RunTells run b
bodies_told law calls changing door account before after events went run b keeps = run_keeps law calls changing b run keeps
