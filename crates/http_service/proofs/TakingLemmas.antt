-- Octets that are taken one text after another, and errors after them.
use Rattle.std.proofs.Common.{◌≡◌, ◌<◌, ◌≤◌, ◌++◌, ℕ, Bool, true, false, max, List, [], ◌∷◌, length, refl, sym, ap, ◌∙◌, subst, arith, append_assoc, length-append, inl, inr, ◌⊎◌}
use Rattle.std.proofs.Common.{Ok, Err}
use Rattle.std.specs.List.{flat_map}
use Rattle.std.proofs.lemmas.List.{append-nil}
use Rattle.gate_world.specs.declared.event.Event.{Event}
use Rattle.gate_world.specs.declared.event.Event.TheVariants.{ClientGave, ClientEnded, FrontFailed}
use Rattle.gate_world.specs.Octets.{Asks, client_gave_in}
use Rattle.gate_world.proofs.Joins.{Asks-append, Asks-one}
use Rattle.http_service.specs.declared.lines.TheConstants.{MAX_HEAD_OCTETS}
use Rattle.http_service.specs.declared.error.HttpError.{HttpError}
use Rattle.http_service.specs.declared.error.HttpError.TheVariants as error
use Rattle.http_service.specs.Taking.{Lines, HaveEnd, Due, Nothing, Octets, LinesOf, IsMissing, most, WereMissing, Takes, EndsBy, EndedInside, Breaks}
use Rattle.http_service.specs.reading.Steps.{Fills, IsOutside}

least : (due : Due) → MAX_HEAD_OCTETS ≤ most due
least Nothing = omega arith
least (Octets size) = omega arith
least (LinesOf lines) = omega arith

none_gave : (gave : List ℕ) (events : List Event) → Asks gave events → events ≡ [] → gave ≡ []
none_gave gave [] asks is = sym asks.gave_is
none_gave gave (e ∷ events) asks is = absurd cc

join_missing : {a b s : List ℕ} {xs : List Event} (t : List ℕ) (ys : List Event) (due : Due) (first : Takes Nothing s a b xs) → WereMissing due t b ys
    → WereMissing due (s ++ t) a (xs ++ ys)
join_missing {a} {b} {s} {xs} t ys due first (inl none) =
    by first.missing
  where
    by : WereMissing Nothing s a xs → WereMissing due (s ++ t) a (xs ++ ys)
    by (inl empty) = inl (λ i. empty i ++ none i)
    by (inr (earlier, held, piece, is, asks, inl short)) = inr
        (earlier, held, piece, (ap (λ (l : List Event). xs ++ l) none ∙ append-nil xs) ∙ is, asks, inl (omega (arith, short, length-append s t)))
    by (inr (earlier, held, piece, is, asks, inr (stood, same, missing))) = absurd missing
join_missing {a} {b} {s} {xs} t ys due first (inr (earlier, held, piece, is, asks, inl short)) =
    inr (
      xs ++ earlier,
      first.gave ++ held,
      piece,
      ap (λ (l : List Event). xs ++ l) is ∙ sym (append_assoc xs earlier (ClientGave piece ∷ [])),
      Asks-append first.asks asks,
      inl (omega (arith, short, ap length (moved a b s held first.gave first.octets), length-append s t, length-append s (b ++ held))),
    )
  where
    moved : (a b s held gave : List ℕ) → a ++ gave ≡ s ++ b → a ++ (gave ++ held) ≡ s ++ (b ++ held)
    moved a b s held gave same = sym (append_assoc a gave held) ∙ ap (λ (l : List ℕ). l ++ held) same ∙ append_assoc s b held
join_missing {a} {b} {s} {xs} t ys due first (inr (earlier, held, piece, is, asks, inr (stood, same, missing))) =
    inr (
      xs ++ earlier,
      first.gave ++ held,
      piece,
      ap (λ (l : List Event). xs ++ l) is ∙ sym (append_assoc xs earlier (ClientGave piece ∷ [])),
      Asks-append first.asks asks,
      inr (stood, moved a b s held first.gave first.octets ∙ ap (λ (l : List ℕ). s ++ l) same ∙ sym (append_assoc s t stood), missing),
    )
  where
    moved : (a b s held gave : List ℕ) → a ++ gave ≡ s ++ b → a ++ (gave ++ held) ≡ s ++ (b ++ held)
    moved a b s held gave same = sym (append_assoc a gave held) ∙ ap (λ (l : List ℕ). l ++ held) same ∙ append_assoc s b held

join_few : {a b c s t : List ℕ} {xs ys : List Event} (due : Due) → Takes Nothing s a b xs → Takes due t b c ys → (xs ++ ys ≡ []) ⊎ (length c ≤ most due)
join_few {a} {b} {c} {s} {t} {xs} {ys} due first second = by first.few second.few
  where
    by : (xs ≡ []) ⊎ (length b ≤ MAX_HEAD_OCTETS) → (ys ≡ []) ⊎ (length c ≤ most due) → (xs ++ ys ≡ []) ⊎ (length c ≤ most due)
    by some (inr few) = inr few
    by (inl none) (inl empty) = inl (λ i. none i ++ empty i)
    by (inr few) (inl empty) =
        let gone = none_gave second.gave ys second.asks empty in
        let whole : b ≡ t ++ c = sym (append-nil b) ∙ ap (λ (l : List ℕ). b ++ l) (sym gone) ∙ second.octets in
        inr (omega (arith, few, least due, ap length whole, length-append t c))

-- one text, and then another
pub then_takes : {a b c s t : List ℕ} {xs ys : List Event} (due : Due) → Takes Nothing s a b xs → Takes due t b c ys → Takes due (s ++ t) a c (xs ++ ys)
then_takes {a} {b} {c} {s} {t} {xs} {ys} due first second =
    record {
      gave = first.gave ++ second.gave;
      asks = Asks-append first.asks second.asks;
      octets = sym (append_assoc a first.gave second.gave) ∙ ap (λ (l : List ℕ). l ++ second.gave) first.octets ∙ append_assoc s b second.gave
          ∙ ap (λ (l : List ℕ). s ++ l) second.octets ∙ sym (append_assoc s t c);
      missing = join_missing t ys due first second.missing;
      few = join_few due first second;
    }

then_inside : (due : Due) (rest : List ℕ) (xs ys earlier : List Event) → EndedInside due rest ys earlier → EndedInside due rest (xs ++ ys) (xs ++ earlier)
then_inside due rest xs ys earlier (is, missing) = (ap (λ (l : List Event). xs ++ l) is ∙ sym (append_assoc xs earlier (ClientEnded ∷ [])), missing)

then_ends : (e : HttpError) (due : Due) (rest : List ℕ) (xs ys earlier : List Event) → EndsBy e due rest ys earlier → EndsBy e due rest (xs ++ ys) (xs ++ earlier)
then_ends error.BadHead due rest xs ys earlier (inl (is, there)) = inl (ap (λ (l : List Event). xs ++ l) is, there)
then_ends error.BadHead due rest xs ys earlier (inr ended) = inr (then_inside due rest xs ys earlier ended)
then_ends error.HeadTooLarge due rest xs ys earlier is = ap (λ (l : List Event). xs ++ l) is
then_ends (error.TooLarge limit) due rest xs ys earlier is = ap (λ (l : List Event). xs ++ l) is
then_ends error.Short due rest xs ys earlier ended = then_inside due rest xs ys earlier ended
then_ends error.FrontFault due rest xs ys earlier (is, missing) = (ap (λ (l : List Event). xs ++ l) is ∙ sym (append_assoc xs earlier (FrontFailed ∷ [])), missing)
then_ends error.Memory due rest xs ys earlier (inl is) = inl (ap (λ (l : List Event). xs ++ l) is)
then_ends error.Memory due rest xs ys earlier (inr ended) = inr (then_inside due rest xs ys earlier ended)

-- a text, and then an error
pub then_breaks : {a b c s : List ℕ} {xs : List Event} {e : HttpError} (ys : List Event) (C D : Due → List ℕ → List ℕ → HttpError → Type 0) → Takes Nothing s a b xs
    → Breaks C b c e ys → ((due : Due) (text : List ℕ) → C due text c e → D due (s ++ text) c e) → Breaks D a c e (xs ++ ys)
then_breaks {c = c} {s = s} {xs = xs} {e = e} ys C D first (due, text, earlier, takes, ends, so) cause =
    (due, s ++ text, xs ++ earlier, then_takes due first takes, then_ends e due c xs ys earlier ends, cause due text so)

-- one piece more, where something was missing
pub one_more : {before now : List ℕ} {xs : List Event} (ys : List Event) (due : Due) (after : List ℕ) (came : Bool) → came ≡ true → Takes due [] before now xs → IsMissing due now
    → Fills now after (Ok came) ys → length after ≤ most due → Takes due [] before after (xs ++ ys)
one_more ys due after false is takes missing fills few = absurd cc
one_more {before} {now} {xs} ys due after true is takes missing (piece, one, grew) few =
    record {
      gave = takes.gave ++ piece;
      asks = subst (λ (l : List Event). Asks (takes.gave ++ piece) (xs ++ l)) (sym one) (Asks-append takes.asks (Asks-one piece));
      octets = sym (append_assoc before takes.gave piece) ∙ ap (λ (l : List ℕ). l ++ piece) takes.octets ∙ sym grew;
      missing = inr (xs, takes.gave, piece, ap (λ (l : List Event). xs ++ l) one, takes.asks, inr (now, takes.octets, missing));
      few = inr few;
    }

-- the client ended its input
pub input_ended : {before now : List ℕ} {xs : List Event} (ys : List Event) (due : Due) (after : List ℕ) (came : Bool) → came ≡ false → Takes due [] before now xs
    → IsMissing due now → Fills now after (Ok came) ys → Takes due [] before after xs × EndedInside due after (xs ++ ys) xs
input_ended ys due after true is takes missing fills = absurd cc
input_ended {before} {now} {xs} ys due after false is takes missing (one, same) = (
  subst (λ (l : List ℕ). Takes due [] before l xs) (sym same) takes,
  (ap (λ (l : List Event). xs ++ l) one, subst (IsMissing due) (sym same) missing),
)

-- no more octets came
abbrev pub FillStops : Due → List ℕ → List ℕ → HttpError → List Event → Type 0
FillStops due before after e events = (earlier : List Event) × Takes due [] before after earlier × EndsBy e due after events earlier × IsOutside e

-- the front or memory failed where something was missing
pub not_filled : {before now : List ℕ} {xs : List Event} (ys : List Event) (due : Due) (after : List ℕ) (e : HttpError) → Takes due [] before now xs → IsMissing due now
    → Fills now after (Err e) ys → FillStops due before after e (xs ++ ys)
not_filled ys due after error.BadHead takes missing fills = absurd fills
not_filled ys due after error.HeadTooLarge takes missing fills = absurd fills
not_filled ys due after (error.TooLarge limit) takes missing fills = absurd fills
not_filled ys due after error.Short takes missing fills = absurd fills
not_filled {before} {now} {xs} ys due after error.FrontFault takes missing (one, same) = (
  xs,
  subst (λ (l : List ℕ). Takes due [] before l xs) (sym same) takes,
  (ap (λ (l : List Event). xs ++ l) one, subst (IsMissing due) (sym same) missing),
  tt,
)
not_filled {before} {now} {xs} ys due after error.Memory takes missing (none, same) = (
  xs,
  subst (λ (l : List ℕ). Takes due [] before l xs) (sym same) takes,
  inl (ap (λ (l : List Event). xs ++ l) none ∙ append-nil xs),
  tt,
)

-- n octets came, and they are taken
pub octets_taken : {before now : List ℕ} {es : List Event} (size : ℕ) (text after : List ℕ) → Takes (Octets size) [] before now es → now ≡ text ++ after → length text ≡ size
    → Takes Nothing text before after es
octets_taken {before} {now} {es} size text after takes whole long =
    record {
      gave = takes.gave;
      asks = takes.asks;
      octets = takes.octets ∙ whole;
      missing = were takes.missing;
      few = left takes.few;
    }
  where
    were : WereMissing (Octets size) [] before es → WereMissing Nothing text before es
    were (inl none) = inl none
    were (inr (earlier, held, piece, is, asks, inl short)) = absurd (omega (arith, short))
    were (inr (earlier, held, piece, is, asks, inr (stood, same, missing))) = inr (earlier, held, piece, is, asks, inl (omega (arith, ap length same, missing, long)))

    left : (es ≡ []) ⊎ (length now ≤ max size MAX_HEAD_OCTETS) → (es ≡ []) ⊎ (length after ≤ MAX_HEAD_OCTETS)
    left (inl none) = inl none
    left (inr few) = inr (omega (arith, few, ap length whole, length-append text after, long))

-- two texts that begin the same octets: one begins the other
pub begins_other : (text stood after piece : List ℕ) → text ++ after ≡ stood ++ piece → (length stood < length text) ⊎ ((rest : List ℕ) × (stood ≡ text ++ rest))
begins_other [] stood after piece e = inr (stood, refl)
begins_other (c ∷ text) [] after piece e = inl (omega arith)
begins_other (c ∷ text) (d ∷ stood) after piece e = more (begins_other text stood after piece cc) cc
  where
    more : (length stood < length text) ⊎ ((rest : List ℕ) × (stood ≡ text ++ rest)) → c ≡ d → (length (d ∷ stood) < length (c ∷ text))
        ⊎ ((rest : List ℕ) × (d ∷ stood ≡ (c ∷ text) ++ rest))
    more (inl short) same = inl (omega (arith, short))
    more (inr (rest, is)) same = inr (rest, λ i. sym same i ∷ is i)

-- lines came, and they are taken
pub lines_taken : {before now : List ℕ} {es : List Event} (lines : Lines) (text after : List ℕ) → Takes (LinesOf lines) [] before now es → now ≡ text ++ after
    → ((rest : List ℕ) → HaveEnd lines (text ++ rest)) → Takes Nothing text before after es
lines_taken {before} {now} {es} lines text after takes whole ends =
    record {
      gave = takes.gave;
      asks = takes.asks;
      octets = takes.octets ∙ whole;
      missing = were takes.missing;
      few = left takes.few;
    }
  where
    shorter : (held stood piece : List ℕ) → before ++ held ≡ stood → (HaveEnd lines stood → ⊥) → (length stood < length text) ⊎ ((rest : List ℕ) × (stood ≡ text ++ rest))
        → length (before ++ held) < length text
    shorter held stood piece same no_end (inl short) = omega (arith, ap length same, short)
    shorter held stood piece same no_end (inr (rest, is)) = absurd (no_end (subst (HaveEnd lines) (sym is) (ends rest)))

    were : WereMissing (LinesOf lines) [] before es → WereMissing Nothing text before es
    were (inl none) = inl none
    were (inr (earlier, held, piece, is, asks, inl short)) = absurd (omega (arith, short))
    were (inr (earlier, held, piece, is, asks, inr (stood, same, (no_end, short)))) =
        let gave : takes.gave ≡ held ++ piece = sym takes.asks.gave_is ∙ ap (flat_map client_gave_in) is ∙ (Asks-append asks (Asks-one piece)).gave_is in
        let all : text ++ after ≡ stood ++ piece = sym whole ∙ sym takes.octets ∙ ap (λ (l : List ℕ). before ++ l) gave ∙ sym (append_assoc before held piece)
        ∙ ap (λ (l : List ℕ). l ++ piece) same in
        inr (earlier, held, piece, is, asks, inl (shorter held stood piece same no_end (begins_other text stood after piece all)))

    left : (es ≡ []) ⊎ (length now ≤ MAX_HEAD_OCTETS) → (es ≡ []) ⊎ (length after ≤ MAX_HEAD_OCTETS)
    left (inl none) = inl none
    left (inr few) = inr (omega (arith, few, ap length whole, length-append text after))
