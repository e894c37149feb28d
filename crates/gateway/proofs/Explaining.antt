-- A client that came is told a page.
use Rattle.std.proofs.Common.{◌≡◌, ◌++◌, ◌∷◌, ℕ, List, [], Result, Ok, Err, refl, sym, subst}
use Rattle.std.proofs.lemmas.List.{append-nil}
use Rattle.gate_world.specs.declared.event.Event.{Event}
use Rattle.gate_world.specs.declared.event.Event.TheVariants.{Accepted}
use Rattle.gate_world.specs.declared.outside.Failed.{Failed}
use Rattle.gate_serving.specs.declared.front.FrontError.TheVariants as front
use Rattle.gateway.specs.Explain.{Explains, ExplainsTo, TellsClient, Told}
use Rattle.gateway.specs.Program.{IsSaid, RunsExplain, TellsReport, front_failed}

-- a client came, and was told the text as far as it was sent
pub told_client : {text : List ℕ} (xs ys : List Event) (sent : Result (Unit {0}) Failed) → xs ≡ Accepted ∷ [] → TellsClient text sent ys → ExplainsTo text sent (xs ++ ys)
told_client xs ys sent is (heard, ys_is, sends) = Told heard sent (λ i. is i ++ ys_is i) sends refl

-- the status by the outcome, and what is said
pub explained_well : {page : List ℕ} (text : List ℕ) (es : List Event) → text ≡ page → ExplainsTo text (Ok tt) es → RunsExplain page 0 es
explained_well text es is so = (es, [], Ok tt, sym (append-nil es), subst (λ (l : List ℕ). Explains l (Ok tt) es) is so, (refl, refl))

-- the front failed: the status is 6, and that is said
pub explained_badly : {page : List ℕ} (text : List ℕ) (status : ℕ) (e : Failed) (xs ys : List Event) → text ≡ page → status ≡ 6 → ExplainsTo text (Err e) xs
    → IsSaid front_failed ys → RunsExplain page status (xs ++ ys)
explained_badly text status e xs ys is status_is so says =
    (xs, ys, Err front.Failed, refl, subst (λ (l : List ℕ). Explains l (Err front.Failed) xs) is so, (status_is, says))

-- the report was told
pub reported_well : {text : List ℕ} (told : List ℕ) (found : ℕ) (es : List Event) → told ≡ text → ExplainsTo told (Ok tt) es → TellsReport text found found es
reported_well told found es is so = (es, [], Ok tt, sym (append-nil es), subst (λ (l : List ℕ). Explains l (Ok tt) es) is so, (refl, refl))

-- the front failed: the status is 6, and that is said
pub reported_badly : {text : List ℕ} (told : List ℕ) (found status : ℕ) (e : Failed) (xs ys : List Event) → told ≡ text → status ≡ 6 → ExplainsTo told (Err e) xs
    → IsSaid front_failed ys → TellsReport text found status (xs ++ ys)
reported_badly told found status e xs ys is status_is so says =
    (xs, ys, Err front.Failed, refl, subst (λ (l : List ℕ). Explains l (Err front.Failed) xs) is so, (status_is, says))
