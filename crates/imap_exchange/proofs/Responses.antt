-- Reading one response.
use Rattle.std.proofs.Common.{◌≡◌, ◌≤◌, ◌++◌, ◌+◌, ℕ, true, List, [], length, take, drop, refl, sym, ◌∙◌, ap, subst, append_assoc, length-append, arith, Ok, Err, rules, Bool}
use Rattle.std.proofs.Common.{false, Result}
use Rattle.std.proofs.Math.Seq.{take-append_seam}
use Rattle.std.proofs.lemmas.List.{append-nil, take-append-drop}
use Rattle.gate_world.specs.declared.event.Event.{Event}
use Rattle.gate_world.specs.Octets.{Talk}
use Rattle.gate_world.proofs.Joins.{Talk-append}
use Rattle.imap_types.specs.declared.response.Response.{Response}
use Rattle.imap_types.specs.Spells.{IsSpelling}
use Rattle.imap_exchange.specs.declared.link_end.LinkEnd.{LinkEnd}
use Rattle.imap_exchange.specs.declared.link_end.LinkEnd.TheVariants as end
use Rattle.imap_grammar.specs.declared.answer.Scan.TheVariants.{Bad}
use Rattle.imap_grammar.specs.Scan.{ScanOf}
use Rattle.imap_exchange.specs.Received.{Octets}
use Rattle.imap_exchange.specs.reading.Filling.{Grows, GainsOctets, Fills, is_up_at}
use Rattle.imap_exchange.specs.Needed.{ReadsWhile, NeedsMore}
use Rattle.imap_exchange.specs.Responses.{IsOver, AwaitsResponse, ReadsOf, ReadsResponse}
use Rattle.imap_exchange.proofs.Needing.{reads_none, reads_one, reads_append, reads_widen}

-- no events
pub Talk-none : Talk [] [] []
Talk-none = record { kind = search rules; gave_is = refl; took_is = refl }

-- what is awaited after some octets
awaited_later : {begun : ℕ} {a b : Octets} {g : List ℕ} → Grows a b g → (x : List ℕ) → AwaitsResponse begun b x [] → AwaitsResponse begun a (g ++ x) []
awaited_later {begun} {a} {b} {g} grows x so =
    record {
      more = subst NeedsMore (ap (λ (l : List ℕ). l ++ x) grows.octets ∙ append_assoc a.octets g x) so.more;
      room = λ over. so.room (subst (λ (n : ℕ). IsOver begun n) (omega (arith, grows.given, length-append g x)) over);
    }

-- twice
pub Gains-append : {begun : ℕ} {a b c : Octets} {g h : List ℕ} {es fs : List Event} → GainsOctets begun a b g es → GainsOctets begun b c h fs → GainsOctets begun a c (g ++ h)
    (es ++ fs)
Gains-append {begun} {a} {b} {c} {g} {h} {es} {fs} first second =
    record {
      said = Talk-append first.said second.said;
      needed = reads_append (AwaitsResponse begun a) fs first.said first.needed
          (reads_widen (AwaitsResponse begun b) (λ x t. AwaitsResponse begun a (g ++ x) ([] ++ t)) (awaited_later first.grows) second.said second.needed);
      grows = record {
        octets = second.grows.octets ∙ ap (λ (l : List ℕ). l ++ h) first.grows.octets ∙ append_assoc a.octets g h;
        given = omega (arith, first.grows.given, second.grows.given, length-append g h);
      };
    }

-- none yet
pub Gains-none : (begun : ℕ) (a : Octets) → GainsOctets begun a a [] []
Gains-none begun a = record { said = Talk-none; needed = reads_none (AwaitsResponse begun a); grows = record { octets = sym (append-nil a.octets); given = omega arith } }

-- once more
pub gained : {es : List Event} (begun : ℕ) (now after : Octets) → NeedsMore now.octets → (fills : Fills begun now after (Ok tt) es) → GainsOctets begun now after fills.0 es
gained begun now after more (gave, is, grows, room) =
    record {
      said = subst (λ (l : List Event). Talk gave [] l) (sym is) (record { kind = search rules; gave_is = append-nil gave; took_is = refl });
      needed = subst (λ (l : List Event). ReadsWhile (AwaitsResponse begun now) l) (sym is) (reads_one (AwaitsResponse begun now) gave here);
      grows = grows;
    }
  where
    here : AwaitsResponse begun now [] []
    here = record { more = subst NeedsMore (sym (append-nil now.octets)) more; room = λ over. room (subst (λ (n : ℕ). IsOver begun n) (omega arith) over) }

-- a whole response stands at the front
pub read_whole : {events : List Event} {response : Response} (begun : ℕ) (before now after : Octets) (n : ℕ) → (gave : List ℕ) × GainsOctets begun before now gave events
    → IsSpelling response
    (take n now.octets) → after.octets ≡ drop n now.octets → after.given ≡ now.given → ReadsResponse begun true true before after (Ok response) events
read_whole {events} begun before now after n (gave, gains) spells rest given =
    record {
      talk = events;
      gave = gave;
      ended = sym (append-nil events);
      said = gains.said;
      needed = gains.needed;
      reads = (
        take n now.octets,
        spells,
        sym gains.grows.octets ∙ sym (take-append-drop n now.octets) ∙ ap (λ (l : List ℕ). take n now.octets ++ l) (sym rest),
        given ∙ gains.grows.given,
      );
    }

-- octets stand there with which no response begins
pub read_bad : {events : List Event} (begun : ℕ) (before now : Octets) (offset at : ℕ) → (gave : List ℕ) × GainsOctets begun before now gave events → ScanOf now.octets (Bad at)
    → offset + length now.octets ≡ now.given → ReadsResponse begun true true before now (Err (end.Bad offset)) events
read_bad {events} begun before now offset at (gave, gains) so place =
    record {
      talk = events;
      gave = gave;
      ended = sym (append-nil events);
      said = gains.said;
      needed = gains.needed;
      reads = (
        at,
        subst (λ (l : List ℕ). ScanOf l (Bad at)) gains.grows.octets so,
        ap (λ (l : List ℕ). offset + length l) (sym gains.grows.octets) ∙ place ∙ gains.grows.given,
        gains.grows.octets,
      );
    }

-- out of memory
pub read_wanting : {events : List Event} (begun : ℕ) (before now after : Octets) → (gave : List ℕ) × GainsOctets begun before now gave events
    → ReadsResponse begun true true before after
    (Err end.Memory) events
read_wanting {events} begun before now after (gave, gains) =
    record { talk = events; gave = gave; ended = sym (append-nil events); said = gains.said; needed = gains.needed; reads = tt }

-- no further octets come, where no whole response stands at the front
pub fill_failed : {xs : List Event} (ys : List Event) (begun : ℕ) (before now after : Octets) (e : LinkEnd) → NeedsMore now.octets → (gave : List ℕ)
    × GainsOctets begun before now gave xs → Fills begun now after (Err e) ys → ReadsResponse begun true (is_up_at e) before after (Err e) (xs ++ ys)
fill_failed {xs} ys begun before now after end.Lost more (gave, gains) fills =
    record {
      talk = xs;
      gave = gave;
      ended = ap (λ (l : List Event). xs ++ l) fills.0;
      said = gains.said;
      needed = gains.needed;
      reads = (subst NeedsMore gains.grows.octets more, λ over. fills.2 (subst (λ (n : ℕ). IsOver begun n) (sym gains.grows.given) over));
    }
fill_failed {xs} ys begun before now after end.TooMuch more (gave, gains) fills =
    record {
      talk = xs;
      gave = gave;
      ended = ap (λ (l : List Event). xs ++ l) fills.0;
      said = gains.said;
      needed = gains.needed;
      reads = (subst NeedsMore gains.grows.octets more, subst (λ (n : ℕ). IsOver begun n) gains.grows.given fills.2, refl);
    }
fill_failed {xs} ys begun before now after end.Memory more (gave, gains) fills =
    record { talk = xs; gave = gave; ended = ap (λ (l : List Event). xs ++ l) fills.0; said = gains.said; needed = gains.needed; reads = tt }
fill_failed ys begun before now after (end.Bad at) more so fills = absurd fills
fill_failed ys begun before now after end.Stray more so fills = absurd fills
fill_failed ys begun before now after end.Bye more so fills = absurd fills
fill_failed ys begun before now after end.Refused more so fills = absurd fills
fill_failed ys begun before now after end.NoQresync more so fills = absurd fills
fill_failed ys begun before now after end.Lacks more so fills = absurd fills

-- octets that grew keep their front
pub kept_front : (old new slice : List ℕ) → slice ≡ old → (gave : List ℕ) × (new ≡ old ++ gave) → (take (length slice) new ≡ old) × (length slice ≤ length new)
kept_front old new slice is (gave, grew) = (
  ap (λ (l : List ℕ). take (length l) new) is ∙ ap (λ (l : List ℕ). take (length old) l) grew ∙ take-append_seam old gave,
  omega
      (arith, ap length is, ap length grew, length-append old gave),
)

-- a response of what is held alone
pub read_held : (begun : ℕ) (up : Bool) (before after : Octets) (result : Result Response LinkEnd) → up ≡ false → ReadsOf begun false before [] after result
    → ReadsResponse begun up up before after result []
read_held begun up before after result down reads =
    subst (λ (b : Bool). ReadsResponse begun b b before after result []) (sym down)
    (record { talk = []; gave = []; ended = (refl, refl, refl); said = Talk-none; needed = reads_none (AwaitsResponse begun before); reads = reads })

-- what is held is read, where nothing is said
pub held_bad : (before : Octets) (offset at : ℕ) → ScanOf before.octets (Bad at) → offset + length before.octets ≡ before.given → (place : ℕ) × ScanOf (before.octets ++ [])
    (Bad place) × (offset + length (before.octets ++ []) ≡ before.given + length {A = ℕ} []) × (before.octets ≡ before.octets ++ [])
held_bad before offset at so place = (
  at,
  subst (λ (l : List ℕ). ScanOf l (Bad at)) (sym (append-nil before.octets)) so,
  omega (arith, place, ap length (append-nil before.octets)),
  sym (append-nil before.octets),
)
