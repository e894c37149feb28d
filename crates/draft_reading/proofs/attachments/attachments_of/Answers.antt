use Rattle.std.proofs.Common.{◌≡◌, ◌≢◌, ◌==◌, ℕ, List, [], ◌∷◌, Bool, true, false, length, map, sym, ap, ◌∙◌, arith, eqb-true}
use Rattle.std.proofs.lemmas.List.{nil_from_length}
use Rattle.std.specs.Borrow.{Bor}
use Rattle.draft_reading.specs.reading.Views.{attached_view}
use Rattle.draft_reading.proofs.UploadLemmas.{found_all, missing_all}
use Rattle.draft_reading.proofs.attachments.attachments_of.Goals as goal

none_of : (xs : List (Bor (List ℕ))) (n : ℕ) (b : Bool) → n ≡ length xs → b ≡ (n == 0) → b ≡ true → map (λ (t : Bor (List ℕ)). t.now) xs ≡ []
none_of xs n b is e f = ap (map (λ (t : Bor (List ℕ)). t.now)) (nil_from_length xs (sym is ∙ eqb-true n 0 (sym e ∙ f)))

some_of : (xs : List (Bor (List ℕ))) (n : ℕ) (b : Bool) → n ≡ length xs → b ≡ (n == 0) → b ≡ false → map (λ (t : Bor (List ℕ)). t.now) xs ≢ []
some_of [] n b is e f h = let t : b ≡ true = e ∙ ap (λ (k : ℕ). k == 0) is in cc
some_of (x ∷ xs) n b is e f h = cc

pub returns-then-is_empty-clause-found : goal.returns-then-is_empty-clause-found
returns-then-is_empty-clause-found c =
    let s = c.in_ok-sought.sought in
    let none = none_of s.missing.items s.missing.len c.is_empty.result (omega (arith, s.missing.ok)) c.is_empty.ensures c.if-is_empty.true in
    found_all c.args.blobs.now (map attached_view c.args.asked.now) s.found.items c.from_vec.result (map (λ (t : Bor (List ℕ)). t.now) s.missing.items) c.in_ok-sought.ensures.found
    c.in_ok-sought.ensures.missing none c.from_vec.ensures

pub returns-in_ok-names_of-clause-refused : goal.returns-in_ok-names_of-clause-refused
returns-in_ok-names_of-clause-refused c =
    let s = c.in_ok-sought.sought in
    let some = some_of s.missing.items s.missing.len c.is_empty.result (omega (arith, s.missing.ok)) c.is_empty.ensures c.if-is_empty.false in
    missing_all c.args.blobs.now (map attached_view c.args.asked.now) (map (λ (t : Bor (List ℕ)). t.now) s.missing.items) c.in_ok-names_of.field-0 c.in_ok-sought.ensures.missing some
    c.in_ok-names_of.ensures
