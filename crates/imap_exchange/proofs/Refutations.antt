-- What the definitions rule out.
use Rattle.std.proofs.Common.{◌≡◌, ◌≢◌, ◌⊎◌, ◌++◌, ◌+◌, ◌≤◌, ℕ, zero, suc, Bool, Result, Ok, Err, List, [], ◌∷◌, take, refl, sym, ◌∙◌, ap, subst, append_assoc, arith, inl, inr}
use Rattle.std.proofs.Common.{All}
use Rattle.std.specs.List.{flat_map}
use Rattle.std.proofs.lemmas.List.{append-nil}
use Rattle.std.proofs.lemmas.List.Concat.{flat_map-append}
use Rattle.std.proofs.lemmas.List.Sums.{sum_by-append}
use Rattle.std.proofs.lemmas.List.Elements.{All-head, All-tail}
use Rattle.gate_world.specs.declared.event.Event.{Event}
use Rattle.gate_world.specs.declared.event.Event.TheVariants.{StoreGave}
use Rattle.gate_world.specs.Octets.{store_gave_in, store_took_in}
use Rattle.imap_types.specs.Commands.{joined_pieces}
use Rattle.imap_types.specs.declared.code.Code.{Code}
use Rattle.imap_types.specs.declared.response.Response.{Response}
use Rattle.imap_types.specs.declared.response.Response.TheVariants.{Tagged}
use Rattle.imap_types.specs.Spells.{IsSpelling}
use Rattle.imap_types.specs.declared.response.Status.{Status}
use Rattle.imap_types.specs.declared.response.Status.TheVariants as status
use Rattle.imap_exchange.specs.declared.link_end.LinkEnd.{LinkEnd}
use Rattle.imap_exchange.specs.declared.link_end.LinkEnd.TheVariants as end
use Rattle.imap_exchange.specs.declared.exchange.Answer.{Answer}
use Rattle.imap_exchange.specs.Received.{Octets}
use Rattle.imap_exchange.specs.Begins.{Begins}
use Rattle.imap_exchange.specs.Needed.{ReadsWhile}
use Rattle.imap_exchange.specs.Exchanges.{IsOpen, continuations, pieces_due, IsDuePart, Verdict, Done, Stray, Bye, BadAt, Open, IsVerdict}
use Rattle.imap_exchange.specs.Answering.{IsCause, Awaits, AllDueTaken, IsTooMuch, ComesTo}
use Rattle.imap_exchange.proofs.Fronts.{same_front}
use Rattle.imap_exchange.proofs.Verdicts.{NoneOpen, none_open, same_pass, one_verdict}

-- open responses at the front are a front of all of them
front_of : (vs ws : List Response) (r s b : List ℕ) → All IsOpen vs → All IsOpen ws → Begins vs r b → Begins ws s b → NoneOpen s → (more : List Response) × (ws ≡ vs ++ more)
front_of [] ws r s b open_v open_w first second none = (ws, refl)
front_of (v ∷ vs) [] r s b open_v open_w (text, more, spells, is, remaining) is' none =
    absurd (none v text more spells (sym is' ∙ is) (All-head IsOpen v vs open_v))
front_of (v ∷ vs) (w ∷ ws) r s b open_v open_w (text, more, spells, is, remaining) (text', more', spells', is', remaining') none =
    let front = same_front spells' spells (sym is' ∙ is) in
    let rest = front_of vs ws r s more (All-tail IsOpen v vs open_v) (All-tail IsOpen w ws open_w) remaining (subst (λ (l : List ℕ). Begins ws s l) front.2 remaining') none in
    (rest.0, (λ i. front.0 i ∷ rest.1 i))

-- fewer pieces are a front of more
fewer : (pieces : List (List ℕ)) (m n : ℕ) → m ≤ n → (left : List ℕ) × (joined_pieces (take m pieces) ++ left ≡ joined_pieces (take n pieces))
fewer pieces zero n le = (joined_pieces (take n pieces), refl)
fewer pieces (suc m) zero le = absurd (omega arith)
fewer [] (suc m) (suc n) le = ([], refl)
fewer (p ∷ ps) (suc m) (suc n) le =
    let rest = fewer ps m n (omega arith) in
    (rest.0, append_assoc p (joined_pieces (take m ps)) rest.0 ∙ ap (λ (l : List ℕ). p ++ l) rest.1)

-- no more is taken than the pieces that are due by the responses before the verdict
pub each_piece_is_due : (tag : List ℕ) (pieces : List (List ℕ)) (octets took : List ℕ) (verdict : Verdict) (v : IsVerdict tag pieces octets verdict) → IsDuePart pieces octets took
    → (left : List ℕ) × (took ++ left ≡ joined_pieces (pieces_due pieces v.responses))
each_piece_is_due tag pieces octets took verdict v part =
    let front = front_of part.responses v.responses part.remaining v.remaining octets part.passed.all_open v.passed.all_open part.passed.spelled v.passed.spelled
    (none_open tag pieces octets v.responses v.remaining verdict v.decided) in
    let same : continuations v.responses ≡ continuations (part.responses ++ front.0) = ap continuations front.1 in
    let sums : continuations (part.responses ++ front.0) ≡ continuations part.responses + continuations front.0 = sum_by-append _ part.responses front.0 in
    let counted : continuations part.responses + 1 ≤ continuations v.responses + 1 = omega (arith, same, sums) in
    let rest = fewer pieces (continuations part.responses + 1) (continuations v.responses + 1) counted in
    (part.left ++ rest.0, sym (append_assoc took part.left rest.0) ∙ ap (λ (l : List ℕ). l ++ rest.0) part.within ∙ rest.1)

done_not_open : (rs : List Response) (s : Status) (k : Code) (t : List ℕ) → Done rs s k t ≡ Open → ⊥
done_not_open rs s k t is = cc

done_not_stray : (rs : List Response) (s : Status) (k : Code) (t : List ℕ) → Done rs s k t ≡ Stray → ⊥
done_not_stray rs s k t is = cc

done_not_bye : (rs : List Response) (s : Status) (k : Code) (t : List ℕ) → Done rs s k t ≡ Bye → ⊥
done_not_bye rs s k t is = cc

done_not_bad : (rs : List Response) (s : Status) (k : Code) (t : List ℕ) (at : ℕ) → Done rs s k t ≡ BadAt at → ⊥
done_not_bad rs s k t at is = cc

done_status : (rs rs' : List Response) (s s' : Status) (k k' : Code) (t t' : List ℕ) → Done rs s k t ≡ Done rs' s' k' t' → s ≡ s'
done_status rs rs' s s' k k' t t' is = cc

-- where a command is answered, and was taken whole if that is OK, the one cause not to complete it is out of memory
pub no_end_after_an_answer : (tag : List ℕ) (pieces : List (List ℕ)) (before : Octets) (gave took : List ℕ) (responses : List Response) (s : Status) (code : Code) (rest : List ℕ)
    (e : LinkEnd) → IsVerdict tag pieces (before.octets ++ gave) (Done responses s code rest) → (s ≢ status.Ok) ⊎ (took ≡ joined_pieces pieces)
    → IsCause tag pieces before gave took e → e ≡ end.Memory
no_end_after_an_answer tag pieces before gave took responses s code rest end.Lost v (inl other) (inl (still, short)) = absurd
    (done_not_open _ _ _ _ (one_verdict tag pieces _ _ _ v still))
no_end_after_an_answer tag pieces before gave took responses s code rest end.Lost v (inr whole) (inl (still, short)) = absurd
    (done_not_open _ _ _ _ (one_verdict tag pieces _ _ _ v still))
no_end_after_an_answer tag pieces before gave took responses s code rest end.Lost v (inl other) (inr (rs, k, t, w, part)) = absurd
    (other (done_status _ _ _ _ _ _ _ _ (one_verdict tag pieces _ _ _ v w)))
no_end_after_an_answer tag pieces before gave took responses s code rest end.Lost v (inr whole) (inr (rs, k, t, w, part)) = absurd (part whole)
no_end_after_an_answer tag pieces before gave took responses s code rest (end.Bad at) v so (place, w, there) = absurd (done_not_bad _ _ _ _ _ (one_verdict tag pieces _ _ _ v w))
no_end_after_an_answer tag pieces before gave took responses s code rest end.Stray v so w = absurd (done_not_stray _ _ _ _ (one_verdict tag pieces _ _ _ v w))
no_end_after_an_answer tag pieces before gave took responses s code rest end.Bye v so w = absurd (done_not_bye _ _ _ _ (one_verdict tag pieces _ _ _ v w))
no_end_after_an_answer tag pieces before gave took responses s code rest end.TooMuch v so (w, over, sent) = absurd (done_not_open _ _ _ _ (one_verdict tag pieces _ _ _ v w))
no_end_after_an_answer tag pieces before gave took responses s code rest end.Memory v so b = refl
no_end_after_an_answer tag pieces before gave took responses s code rest end.Refused v so b = absurd b
no_end_after_an_answer tag pieces before gave took responses s code rest end.NoQresync v so b = absurd b
no_end_after_an_answer tag pieces before gave took responses s code rest end.Lacks v so b = absurd b

-- no tagged line says PREAUTH or BYE
said_by : (tag : List ℕ) (s : Status) (code : Code) (text : List ℕ) → IsSpelling (Tagged tag s code) text → (s ≡ status.Ok) ⊎ (s ≡ status.No) ⊎ (s ≡ status.Bad)
said_by tag status.Ok code text spells = inl refl
said_by tag status.No code text spells = inr (inl refl)
said_by tag status.Bad code text spells = inr (inr refl)
said_by tag status.Preauth code text spells = absurd spells.spells.completes
said_by tag status.Bye code text spells = absurd spells.spells.completes

-- the status of an answer is OK, NO or BAD
pub statuses_of_answers : (tag : List ℕ) (pieces : List (List ℕ)) (octets rest : List ℕ) (responses : List Response) (s : Status) (code : Code) → IsVerdict tag pieces octets
    (Done responses s code rest) → (s ≡ status.Ok) ⊎ (s ≡ status.No) ⊎ (s ≡ status.Bad)
statuses_of_answers tag pieces octets rest responses s code v = let line = v.decided.1 in said_by tag s code line.0 line.2

-- what an event gives
gives : (e : Event) → (store_gave_in e ≡ []) ⊎ ((octet : ℕ) × (octets : List ℕ) × (e ≡ StoreGave (octet ∷ octets)))
gives (StoreGave []) = inl refl
gives (StoreGave (octet ∷ octets)) = inr (octet, octets, refl)
gives _ = inl refl

-- octets that are awaited are open
abbrev pub still_open : (tag : List ℕ) {pieces : List (List ℕ)} {before : Octets} {gave took : List ℕ} → Awaits pieces before gave took
    → IsVerdict tag pieces (before.octets ++ gave) Open
still_open tag so = record { responses = so.responses; remaining = so.remaining; passed = so.passed; decided = so.more }

-- once octets decide the exchange no more of them are read
pub nothing_is_read_once_decided : (tag : List ℕ) (pieces : List (List ℕ)) (before : Octets) (so_far later : List Event) (verdict : Verdict)
    → ReadsWhile (Awaits pieces before) (so_far ++ later) → IsVerdict tag pieces (before.octets ++ flat_map store_gave_in so_far) verdict → verdict ≢ Open
    → flat_map store_gave_in later ≡ []
nothing_is_read_once_decided tag pieces before so_far [] verdict needed v closed = refl
nothing_is_read_once_decided tag pieces before so_far (e ∷ later) verdict needed v closed =
    elim (gives e) as (λ c. store_gave_in e ++ flat_map store_gave_in later ≡ []) [
      | inl none ↦
          let same : flat_map store_gave_in (so_far ++ e ∷ []) ≡ flat_map store_gave_in so_far = flat_map-append store_gave_in so_far (e ∷ [])
          ∙ ap (λ (l : List ℕ). flat_map store_gave_in so_far ++ (l ++ [])) none ∙ append-nil (flat_map store_gave_in so_far) in
          let rest = nothing_is_read_once_decided tag pieces before (so_far ++ e ∷ []) later verdict
          (subst (λ (l : List Event). ReadsWhile (Awaits pieces before) l) (sym (append_assoc so_far (e ∷ []) later)) needed)
          (subst (λ (l : List ℕ). IsVerdict tag pieces (before.octets ++ l) verdict) (sym same) v) closed in
          ap (λ (l : List ℕ). l ++ flat_map store_gave_in later) none ∙ rest
      | inr some ↦
          let awaited = needed.at_each so_far later some.0 some.1 (ap (λ (x : Event). so_far ++ x ∷ later) some.2) in
          absurd (closed (one_verdict tag pieces (before.octets ++ flat_map store_gave_in so_far) verdict Open v (still_open tag awaited)))
    ]

-- the responses before what is still open
same_open : (tag : List ℕ) (pieces : List (List ℕ)) (octets : List ℕ) (v w : IsVerdict tag pieces octets Open) → v.responses ≡ w.responses
same_open tag pieces octets v w =
    (same_pass v.responses w.responses v.remaining w.remaining octets v.passed.all_open w.passed.all_open v.passed.spelled w.passed.spelled
    (none_open tag pieces octets v.responses v.remaining Open v.decided) (none_open tag pieces octets w.responses w.remaining Open w.decided)).0

-- where octets are read, those before them decide nothing and aren't too much, and all that is due by them was taken
pub all_due_is_taken_before_reading : (tag : List ℕ) (pieces : List (List ℕ)) (before : Octets) (so_far later : List Event) (octet : ℕ) (octets : List ℕ)
    → ReadsWhile (Awaits pieces before) (so_far ++ StoreGave (octet ∷ octets) ∷ later)
    → (still : IsVerdict tag pieces (before.octets ++ flat_map store_gave_in so_far) Open)
    × AllDueTaken pieces still.responses (flat_map store_took_in so_far) × (IsTooMuch before (flat_map store_gave_in so_far) → ⊥)
all_due_is_taken_before_reading tag pieces before so_far later octet octets needed =
    let awaited = needed.at_each so_far later octet octets refl in (still_open tag awaited, awaited.sent, awaited.room)

done_not_yet : (rs : List Response) (s : Status) (k : Code) (t : List ℕ) → Open ≡ Done rs s k t → ⊥
done_not_yet rs s k t is = cc

stray_not_yet : Open ≡ Stray → ⊥
stray_not_yet is = cc

bye_not_yet : Open ≡ Bye → ⊥
bye_not_yet is = cc

bad_not_yet : (at : ℕ) → Open ≡ BadAt at → ⊥
bad_not_yet at is = cc

-- where too much came, nothing is decided and all that is due was taken, the exchange ends with too much or out of memory
pub too_much_ends_so : (tag : List ℕ) (pieces : List (List ℕ)) (before after : Octets) (gave took : List ℕ) (up : Bool) (result : Result Answer LinkEnd)
    (still : IsVerdict tag pieces (before.octets ++ gave) Open) → IsTooMuch before gave → AllDueTaken pieces still.responses took
    → ComesTo tag pieces before gave took after up result → (result ≡ Err end.TooMuch) ⊎ (result ≡ Err end.Memory)
too_much_ends_so tag pieces before after gave took up (Ok a) still over sent (v, taken, given, refused, all) = absurd (done_not_yet _ _ _ _ (one_verdict tag pieces _ _ _ still v))
too_much_ends_so tag pieces before after gave took up (Err end.Lost) still over sent (inl (w, short)) =
    absurd (short over (subst (λ (rs : List Response). AllDueTaken pieces rs took) (same_open tag pieces (before.octets ++ gave) still w) sent))
too_much_ends_so tag pieces before after gave took up (Err end.Lost) still over sent (inr (rs, k, t, w, part)) = absurd
    (done_not_yet _ _ _ _ (one_verdict tag pieces _ _ _ still w))
too_much_ends_so tag pieces before after gave took up (Err (end.Bad at)) still over sent (place, w, there) = absurd (bad_not_yet _ (one_verdict tag pieces _ _ _ still w))
too_much_ends_so tag pieces before after gave took up (Err end.Stray) still over sent w = absurd (stray_not_yet (one_verdict tag pieces _ _ _ still w))
too_much_ends_so tag pieces before after gave took up (Err end.Bye) still over sent w = absurd (bye_not_yet (one_verdict tag pieces _ _ _ still w))
too_much_ends_so tag pieces before after gave took up (Err end.TooMuch) still over sent b = inl refl
too_much_ends_so tag pieces before after gave took up (Err end.Memory) still over sent b = inr refl
too_much_ends_so tag pieces before after gave took up (Err end.Refused) still over sent b = absurd b
too_much_ends_so tag pieces before after gave took up (Err end.NoQresync) still over sent b = absurd b
too_much_ends_so tag pieces before after gave took up (Err end.Lacks) still over sent b = absurd b
