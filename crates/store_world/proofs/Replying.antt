-- Commands that stand unread are answered one after another.
use Rattle.std.proofs.Common.{◌≡◌, ◌≢◌, ◌⊎◌, inl, inr, ℕ, List, [], ◌∷◌, ◌++◌, drop, refl, sym, ap, subst, ◌∙◌, append_assoc}
use Rattle.std.proofs.lemmas.List.{append-nil}
use Rattle.honest_store.specs.Sessions.{StoreSession}
use Rattle.small_responses.specs.AnswerTexts.{text_of_answer}
use Rattle.store_sessions.specs.declared.next.Next.TheVariants as next
use Rattle.store_sessions.specs.declared.turn.Turn.{Turn}
use Rattle.store_sessions.specs.declared.turn.Turn.TheVariants as turns
use Rattle.store_sessions.specs.Answered.{AnswersEach, NoneMore, OneMore}
use Rattle.store_sessions.specs.Sessions.{next_of}
use Rattle.store_sessions.specs.Turns.{Turns, Answered, Asks, Waits, Ends, Lacks, Undone, Unanswered, octets_read, octets_told}
use Rattle.store_world.specs.Replies.{AnswersSome, Replies, Stops, GoesOn}

-- from s over u on, with r ready, some commands were answered: t over v now, with q ready
pub record Stands (s : StoreSession) (u r : List ℕ) (t : StoreSession) (v q : List ℕ) : Type 0 where
  pub told : List ℕ
  pub ready : q ≡ r ++ told
  pub leads : (more : List ℕ) (after : StoreSession) (rest : List ℕ) → Replies t v more after rest → Replies s u (told ++ more) after rest
  pub some : (after : StoreSession) → AnswersSome t v after → AnswersSome s u after

pub begins : (s : StoreSession) (u r : List ℕ) → Stands s u r s u r
begins s u r = record { told = []; ready = sym (append-nil r); leads = λ more after rest it. it; some = λ after it. it }

-- ---- some commands are answered

pub answers_none : (s : StoreSession) (u : List ℕ) → AnswersSome s u s
answers_none s u = ([], u, NoneMore)

-- the answered command stands first
answers_first : {s t : StoreSession} {u : List ℕ} (after : StoreSession) (taken : Turn) → Turns s u t taken → next_of taken ≡ next.Read
    → AnswersSome t (drop (octets_read taken) u) after → AnswersSome s u after
answers_first {s} {t} {u} after (turns.Answer n octets) (Answered {tag} {command} {count} {a} reads answers is) read (texts, rest, each) =
    (text_of_answer tag a ∷ texts, rest, OneMore reads answers (subst (λ (k : ℕ). AnswersEach t (drop k u) texts after rest) is.0 each))
answers_first after turns.GoAhead turned read more = absurd (cc)
answers_first after turns.Wait turned read more = absurd (cc)
answers_first after turns.End turned read more = absurd (cc)

after_turn : {s t : StoreSession} {u : List ℕ} {taken : Turn} → Turns s u t taken → AnswersSome s u t
after_turn {s} {t} {u} (Answered {tag} {command} {count} {a} reads answers is) = (text_of_answer tag a ∷ [], drop count u, OneMore reads answers NoneMore)
after_turn {s} {t} {u} (Asks reads) = answers_none s u
after_turn {s} {t} {u} (Waits reads) = answers_none s u
after_turn {s} {t} {u} (Ends reads) = answers_none s u

after_lack : {s t : StoreSession} {u : List ℕ} → Lacks s u t → AnswersSome s u t
after_lack {s} {t} {u} (Undone begins) = answers_none s u
after_lack {s} {t} {u} (Unanswered {tag} {command} {count} {a} reads answers) = (text_of_answer tag a ∷ [], drop count u, OneMore reads answers NoneMore)

-- ---- the loop

pub lacks : {s t z : StoreSession} {u v w r q : List ℕ} → Stands s u r t v q → w ≡ v → Lacks t w z → AnswersSome s u z
lacks {t = t} {z = z} so same lack = so.some z (after_lack (subst (λ (x : List ℕ). Lacks t x z) same lack))

pub untold : {s t z : StoreSession} {u v w r q : List ℕ} {taken : Turn} → Stands s u r t v q → w ≡ v → Turns t w z taken → AnswersSome s u z
untold {t = t} {z = z} {taken = taken} so same turned = so.some z (after_turn (subst (λ (x : List ℕ). Turns t x z taken) same turned))

pub goes_on : {s t z : StoreSession} {u v w x r q p told : List ℕ} {n : ℕ} (taken : Turn) → Stands s u r t v q → w ≡ v → told ≡ octets_told taken
    → n ≡ octets_read taken → x ≡ drop n v → p ≡ q ++ told → Turns t w z taken → next_of taken ≡ next.Read → Stands s u r z x p
goes_on {s} {t} {z} {u} {v} {w} {x} {r} {q} {p} {told} {n} taken so same tells reads rest ready turned read =
    let here : Turns t v z taken = subst (λ (y : List ℕ). Turns t y z taken) same turned in
    let left : x ≡ drop (octets_read taken) v = rest ∙ ap (λ (m : ℕ). drop m v) reads in
    record {
      told = so.told ++ octets_told taken;
      ready = ready ∙ ap (λ (l : List ℕ). q ++ l) tells ∙ ap (λ (l : List ℕ). l ++ octets_told taken) so.ready ∙ append_assoc r so.told (octets_told taken);
      leads = λ more after last it.
          subst (λ (l : List ℕ). Replies s u l after last) (sym (append_assoc so.told (octets_told taken) more))
          (so.leads (octets_told taken ++ more) after last (GoesOn taken here read (subst (λ (y : List ℕ). Replies z y more after last) left it)));
      some = λ after it. so.some after (answers_first after taken here read (subst (λ (y : List ℕ). AnswersSome z y after) left it));
    }

-- nothing is read where no command is answered
none_read : (taken : Turn) → next_of taken ≢ next.Read → octets_read taken ≡ 0
none_read (turns.Answer n octets) other = absurd (other refl)
none_read turns.GoAhead other = refl
none_read turns.Wait other = refl
none_read turns.End other = refl

pub stops : {s t z : StoreSession} {u v w x r q p told : List ℕ} {n : ℕ} (taken : Turn) → Stands s u r t v q → w ≡ v → told ≡ octets_told taken
    → n ≡ octets_read taken → x ≡ drop n v → p ≡ q ++ told → Turns t w z taken → next_of taken ≢ next.Read
    → (all : List ℕ) × Replies s u all z x × (p ≡ r ++ all)
stops {s} {t} {z} {u} {v} {w} {x} {r} {q} {p} {told} {n} taken so same tells reads rest ready turned other =
    let here : Turns t v z taken = subst (λ (y : List ℕ). Turns t y z taken) same turned in
    let left : x ≡ v = rest ∙ ap (λ (m : ℕ). drop m v) (reads ∙ none_read taken other) in (
      so.told ++ octets_told taken,
      subst (λ (y : List ℕ). Replies s u (so.told ++ octets_told taken) z y) (sym left) (so.leads (octets_told taken) z v (Stops taken here other)),
      ready ∙ ap (λ (l : List ℕ). q ++ l) tells ∙ ap (λ (l : List ℕ). l ++ octets_told taken) so.ready ∙ append_assoc r so.told (octets_told taken),
    )

-- what is no answer doesn't let the store read on
pub none_answered : (taken : Turn) → (taken ≡ turns.GoAhead) ⊎ ((taken ≡ turns.Wait) ⊎ (taken ≡ turns.End)) → next_of taken ≢ next.Read
none_answered taken (inl is) read = let both : next.Wait ≡ next.Read = sym (ap next_of is) ∙ read in absurd (cc)
none_answered taken (inr (inl is)) read = let both : next.Wait ≡ next.Read = sym (ap next_of is) ∙ read in absurd (cc)
none_answered taken (inr (inr is)) read = let both : next.End ≡ next.Read = sym (ap next_of is) ∙ read in absurd (cc)
