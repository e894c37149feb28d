-- A text has one normal form under the steps.
use Rattle.std.proofs.Common.{◌≡◌, ℕ, List, refl, sym, subst, ◌↔◌, Result, Ok, Err}
use Rattle.std.specs.Result.{IfOk}
use Rattle.thread_rule.specs.Subject.{IsLeader, IsTrailer}
use Rattle.thread_rule.specs.BaseSubject.{Drops, DropsEnd, DropsBlobBeforeText, Unwraps, Lacks, Step, Step2, Step3, Step4, Step6, Reaches, NoStep, Goes, IsNormalFormOf}
use Rattle.thread_rule.proofs.PieceLemmas.{one_trailer, one_inner}
use Rattle.thread_rule.proofs.BlobLemmas.{one_blob}
use Rattle.thread_rule.proofs.LeaderLemmas.{one_leader}

-- one step leads from a text to one text at most
pub one_step : (s t u : List ℕ) → Step s t → Step s u → t ≡ u
one_step s t u (Step2 d) (Step2 e) = one_trailer s t u d e
one_step s t u (Step2 d) (Step3 l e) = absurd (l t d)
one_step s t u (Step2 d) (Step4 l m e) = absurd (l t d)
one_step s t u (Step2 d) (Step6 l m n e) = absurd (l t d)
one_step s t u (Step3 l d) (Step2 e) = absurd (l u e)
one_step s t u (Step3 l d) (Step3 k e) = one_leader s t u d e
one_step s t u (Step3 l d) (Step4 k m e) = absurd (m t d)
one_step s t u (Step3 l d) (Step6 k m n e) = absurd (m t d)
one_step s t u (Step4 l m d) (Step2 e) = absurd (l u e)
one_step s t u (Step4 l m d) (Step3 k e) = absurd (m u e)
one_step s t u (Step4 l m d) (Step4 k n e) = one_blob s t u d.drops e.drops
one_step s t u (Step4 l m d) (Step6 k n o e) = absurd (o t d)
one_step s t u (Step6 l m n d) (Step2 e) = absurd (l u e)
one_step s t u (Step6 l m n d) (Step3 k e) = absurd (m u e)
one_step s t u (Step6 l m n d) (Step4 k o e) = absurd (n u e)
one_step s t u (Step6 l m n d) (Step6 k o p e) = one_inner s t u d e

-- two texts that steps lead to from the same text, and that no step leads from, are the same
pub one_normal : (s t u : List ℕ) → Reaches s t → Lacks Step t → Reaches s u → Lacks Step u → t ≡ u
one_normal s _ _ (NoStep _) n (NoStep _) m = refl
one_normal s _ u (NoStep _) n (Goes _ y _ d e) m = absurd (n y d)
one_normal s t _ (Goes _ x _ a b) n (NoStep _) m = absurd (m x a)
one_normal s t u (Goes _ x _ a b) n (Goes _ y _ d e) m =
    let P : List ℕ → Type 0 = λ z. Reaches z u in
    one_normal x t u b n (subst P (sym (one_step s x y a d)) e) m

-- steps from s to t, and then steps from t to u, are steps from s to u
pub reaches_on : (s t u : List ℕ) → Reaches s t → Reaches t u → Reaches s u
reaches_on s _ u (NoStep _) r = r
reaches_on s t u (Goes _ x _ d e) r = Goes s x u d (reaches_on x t u e r)

-- steps from s to t, and then one step from t to u, are steps from s to u
pub reaches_more : (s t u : List ℕ) → Reaches s t → Step t u → Reaches s u
reaches_more s t u r d = reaches_on s t u r (Goes t u u d (NoStep u))

-- no step leads from a text that has no trailer, no leader, no blob before other text, and no wrapping of a forwarded subject
pub no_step : (s : List ℕ) → Lacks (DropsEnd IsTrailer) s → Lacks (Drops IsLeader) s → Lacks DropsBlobBeforeText s → Lacks Unwraps s → Lacks Step s
no_step s a b c d t (Step2 e) = a t e
no_step s a b c d t (Step3 k e) = b t e
no_step s a b c d t (Step4 k l e) = c t e
no_step s a b c d t (Step6 k l m e) = d t e

-- what was reached and goes no further is the one normal form
pub is_the_form : (s r : List ℕ) → Reaches s r → Lacks Step r → (t : List ℕ) → IsNormalFormOf s t ↔ (t ≡ r)
is_the_form s r a b t = (
  λ n. one_normal s t r n.reached n.normal a b,
  λ e. let P : List ℕ → Type 0 = λ u. IsNormalFormOf s u in subst P (sym e) (record { reached = a; normal = b }),
)

-- the same of a copy of it
pub copied_form : {E : Type 0} (r : Result (List ℕ) E) (s u form : List ℕ) → s ≡ u → ((t : List ℕ) → IsNormalFormOf s t ↔ (t ≡ form)) → IfOk r (λ b. b ≡ form)
    → IfOk r (λ b. (t : List ℕ) → IsNormalFormOf u t ↔ (t ≡ b))
copied_form (Ok b) s u form e n h =
    let P : List ℕ → Type 0 = λ x. (t : List ℕ) → IsNormalFormOf x t ↔ (t ≡ form) in
    let Q : List ℕ → Type 0 = λ y. (t : List ℕ) → IsNormalFormOf u t ↔ (t ≡ y) in
    subst Q (sym h) (subst P e n)
copied_form (Err x) s u form e n h = tt
