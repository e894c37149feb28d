-- What holds of the folder of a name, and as a LIST is told to the folders.
use Rattle.std.proofs.Common.{Bool, Vec, Global, filter, map}
use Rattle.std.specs.BTreeMap.{BTreeMap}
use Rattle.std.proofs.lemmas.List.{append_assoc, append-nil, take_more}
use Rattle.std.proofs.lemmas.List.Elements.{filter-append}
use Rattle.std.proofs.Common.{◌≡◌, ℕ, ◌+◌, ◌<◌, ◌≤◌, zero, suc, true, false, List, [], ◌∷◌, ◌++◌, Option, Some, None, Result, Ok, Err, OnOk, length}
use Rattle.std.proofs.Common.{get_or, set, take, drop, refl, sym, ap, ◌∙◌, subst, arith, is_some, if◌then◌else◌}
use Rattle.std.specs.declared.alloc.AllocError.{AllocError}
use Rattle.imap_types.specs.declared.command.Command.{Command}
use Rattle.imap_types.specs.declared.response.Response.{Response}
use Rattle.told_folder.specs.Folders.{folder_number}
use Rattle.told_folder.specs.ToldBy.{TellsKnownOf}
use Rattle.told_folder.specs.declared.message.NumberedFolder.{NumberedFolder}
use Rattle.told_folder.proofs.KeyedLemmas.{item_at}
use Rattle.told_folder.proofs.OpenLemmas.{on_ok_map}
use Rattle.told_folder.proofs.StepLemmas.{left}
use Rattle.told_mail.specs.Exchanges.{tell_held, KnownOf}
use Rattle.told_mail.specs.Lists as lists
use Rattle.told_mail.specs.Lists.{line_for, with_line, put_listed, listed}
use Rattle.told_mail.specs.Mail.{Mail, named}
use Rattle.told_mail.specs.Told.{Told}
use Rattle.told_mail.specs.reading.Index.{IsNamedAt}
use Rattle.told_mail.specs.reading.Lines.{lined, lined_by, lined_here, lined_at, is_listed, AreLinesFrom}
use Rattle.told_mail.specs.reading.Rises.{Rises}
use Rattle.told_mail.proofs.LineLemmas.{has_line_is}

-- ---- the folder of a name

-- what follows from two things that hold at Ok holds at Ok
pub on_ok_both : {T E : Type 0} (r : Result T E) {P Q R : Type 0} → (P → Q → R) → OnOk r P → OnOk r Q → OnOk r R
on_ok_both (Ok x) f p q = f p q
on_ok_both (Err e) f p q = tt

-- telling the folder at a name's place is telling the folder of the name
pub named_told : (m n : Mail) (c : Command) (rs : List Response) (name : List ℕ) (at : ℕ) (result : Result (Unit {0}) AllocError) → IsNamedAt m.folders name at
    → OnOk result ((h : NumberedFolder) → h ≡ get_or m.folders at h → n ≡ tell_held m c rs (Some h)) → OnOk result (n ≡ tell_held m c rs (named m.folders name))
named_told m n c rs name at result is told =
    let item = item_at folder_number m.folders at is.within in
    on_ok_map result (λ f. f item.0 item.1 ∙ ap (λ (o : Option NumberedFolder). tell_held m c rs o) (sym (is.found item.0 item.1))) told

-- what follows where the folder at a name's place is told what is known follows where the folder of the name is
pub named_known : (m : Mail) (c : Command) (rs : List Response) (name : List ℕ) (at : ℕ) (P : Type 0) (result : Result (Unit {0}) AllocError) → IsNamedAt m.folders name at
    → ((h : NumberedFolder) → h ≡ get_or m.folders at h → TellsKnownOf c rs m.next_mark h → OnOk result P) → KnownOf c rs m.next_mark (named m.folders name) → OnOk result P
named_known m c rs name at P result is known k =
    let item = item_at folder_number m.folders at is.within in
    known item.0 item.1 (subst (λ (o : Option NumberedFolder). KnownOf c rs m.next_mark o) (is.found item.0 item.1) k)

-- two steps in order that each count what changes do so together
pub rises_on : (a b c : Told) → Rises a b → Rises b c → Rises a c
rises_on a b c f g = record {
  rises = omega (arith, f.rises, g.rises);
  stands = λ e l.
      let first : a.changes ≡ b.changes = omega (arith, e, f.rises, g.rises) in
      let second : b.changes ≡ c.changes = sym first ∙ e in
      g.stands second l ∙ f.stands first (omega (arith, second, l));
}

-- ---- the lines of a LIST, told to the folders that they name

-- the folder at a place with what its line tells
lined_some : (rs : List Response) (hs : List NumberedFolder) (at : ℕ) (h : NumberedFolder) (l : lists.Line) → at < length hs → h ≡ get_or hs at h → line_for h.folder.name rs ≡ Some l
    → take at hs ++ lined_here rs (drop at hs) ≡ set hs at (with_line l h)
lined_some rs [] at h l w is e = absurd (omega arith)
lined_some rs (x ∷ xs) zero h l w is e = ap (λ (z : NumberedFolder). lined rs z ∷ xs) (sym is) ∙ ap (λ (o : Option lists.Line). lined_by o h ∷ xs) e
lined_some rs (x ∷ xs) (suc at) h l w is e = ap (λ zs. x ∷ zs) (lined_some rs xs at h l (omega arith) is e)

-- a folder that no line tells
lined_none : (rs : List Response) (hs : List NumberedFolder) (at : ℕ) (h : NumberedFolder) → at < length hs → h ≡ get_or hs at h → line_for h.folder.name rs ≡ None
    → take at hs ++ lined_here rs (drop at hs) ≡ hs
lined_none rs [] at h w is e = absurd (omega arith)
lined_none rs (x ∷ xs) zero h w is e = ap (λ (z : NumberedFolder). lined rs z ∷ xs) (sym is) ∙ ap (λ (o : Option lists.Line). lined_by o h ∷ xs) e ∙ ap (λ (z : NumberedFolder). z ∷ xs) is
lined_none rs (x ∷ xs) (suc at) h w is e = ap (λ zs. x ∷ zs) (lined_none rs xs at h (omega arith) is e)

-- giving the folder at a place what its line tells is telling the LIST to the folder there
pub list_some_ok : (m n : Mail) (rs : List Response) (at : ℕ) (h : NumberedFolder) (l : lists.Line) (result : Result (Unit {0}) AllocError) → at < length m.folders
    → h ≡ get_or m.folders at h → Some l ≡ line_for h.folder.name rs
    → OnOk result ((k : NumberedFolder) → k ≡ get_or m.folders at k → n ≡ record m { folders = set m.folders at (with_line l k) }) → OnOk result (n ≡ lined_at rs at m)
list_some_ok m n rs at h l result within is line told = on_ok_map result
    (λ f. f h is ∙ ap (λ (hs : List NumberedFolder). record m { folders = hs }) (sym (lined_some rs m.folders at h l within is (sym line)))) told

heads : (x y : NumberedFolder) (xs ys : List NumberedFolder) → x ∷ xs ≡ y ∷ ys → x ≡ y
heads x y xs ys f = cc

tails : (x y : NumberedFolder) (xs ys : List NumberedFolder) → x ∷ xs ≡ y ∷ ys → xs ≡ ys
tails x y xs ys f = cc

-- telling a LIST to the folders before a place leaves as many folders
pub lined_length : (rs : List Response) (hs : List NumberedFolder) (at : ℕ) → length (map (lined rs) (take at hs) ++ drop at hs) ≡ length hs
lined_length rs [] zero = refl
lined_length rs [] (suc at) = refl
lined_length rs (x ∷ xs) zero = refl
lined_length rs (x ∷ xs) (suc at) = omega (arith, lined_length rs xs at)

lined_step : (rs : List Response) (was now : List NumberedFolder) (at : ℕ) → at < length was → now ≡ map (lined rs) (take at was) ++ drop at was
    → take at now ++ lined_here rs (drop at now) ≡ map (lined rs) (take (at + 1) was) ++ drop (at + 1) was
lined_step rs [] now at h e = absurd (omega arith)
lined_step rs (x ∷ xs) now zero h e = ap (λ (zs : List NumberedFolder). lined_here rs zs) e
lined_step rs (x ∷ xs) now (suc at) h e =
    let shift : suc at + 1 ≡ suc (at + 1) = omega arith in
    ap (λ (zs : List NumberedFolder). take (suc at) zs ++ lined_here rs (drop (suc at) zs)) e
    ∙ ap (λ (zs : List NumberedFolder). lined rs x ∷ zs) (lined_step rs xs (map (lined rs) (take at xs) ++ drop at xs) at (omega arith) refl)
    ∙ sym (ap (λ j. map (lined rs) (take j (x ∷ xs)) ++ drop j (x ∷ xs)) shift)

lined_rest : (rs : List Response) (hs : List NumberedFolder) (at : ℕ) → map (lined rs) hs ≡ hs → map (lined rs) (take at hs) ++ drop at hs ≡ hs
lined_rest rs [] zero e = refl
lined_rest rs [] (suc at) e = refl
lined_rest rs (x ∷ xs) zero e = refl
lined_rest rs (x ∷ xs) (suc at) e =
    ap (λ (z : NumberedFolder). z ∷ (map (lined rs) (take at xs) ++ drop at xs)) (heads (lined rs x) x (map (lined rs) xs) xs e)
    ∙ ap (λ (zs : List NumberedFolder). x ∷ zs) (lined_rest rs xs at (tails (lined rs x) x (map (lined rs) xs) xs e))

lined_all : (rs : List Response) (hs : List NumberedFolder) → map (lined rs) (take (length hs) hs) ++ drop (length hs) hs ≡ map (lined rs) hs
lined_all rs [] = refl
lined_all rs (x ∷ xs) = ap (λ (zs : List NumberedFolder). lined rs x ∷ zs) (lined_all rs xs)

-- when the LIST is told to the folder at a place after those before it, it is told to all up to it
pub lined_more : (rs : List Response) (m now new : Mail) (at : ℕ) → at < length m.folders → now ≡ record m { folders = map (lined rs) (take at m.folders) ++ drop at m.folders }
    → new ≡ lined_at rs at now → new ≡ record m { folders = map (lined rs) (take (at + 1) m.folders) ++ drop (at + 1) m.folders }
lined_more rs m now new at h e f = f ∙ ap (lined_at rs at) e
    ∙ ap (λ (hs : List NumberedFolder). record m { folders = hs }) (lined_step rs m.folders (map (lined rs) (take at m.folders) ++ drop at m.folders) at h refl)

-- where the LIST tells each folder as it is, telling it to the one at a place after those before it changes nothing
pub lined_known : (rs : List Response) (m now : Mail) (at : ℕ) → at < length m.folders → map (lined rs) m.folders ≡ m.folders
    → now ≡ record m { folders = map (lined rs) (take at m.folders) ++ drop at m.folders } → lined_at rs at now ≡ now
lined_known rs m now at h same e =
    let here : now ≡ m = e ∙ ap (λ (hs : List NumberedFolder). record m { folders = hs }) (lined_rest rs m.folders at same) in
    lined_more rs m now (lined_at rs at now) at h e refl ∙ ap (λ (hs : List NumberedFolder). record m { folders = hs }) (lined_rest rs m.folders (at + 1) same) ∙ sym here

-- ---- folders that no line tells

-- those that a line names, with what it tells
pub listed_as : (rs : List Response) (lines : BTreeMap (Vec ℕ Global) ℕ) (hs : List NumberedFolder) → AreLinesFrom rs 0 lines
    → filter (is_listed lines) (map (lined rs) hs) ≡ listed rs hs
listed_as rs lines [] a = refl
listed_as rs lines (h ∷ hs) a =
    let rest : filter (is_listed lines) (map (lined rs) hs) ≡ listed rs hs = listed_as rs lines hs a in
    elim (line_for h.folder.name rs) as (λ o. line_for h.folder.name rs ≡ o
    → (if is_listed lines (lined_by o h) then lined_by o h ∷ filter (is_listed lines) (map (lined rs) hs) else filter (is_listed lines) (map (lined rs) hs)) ≡ put_listed o h
    (listed rs hs)) [
      | None ↦ λ e. ap (λ b. if b then h ∷ filter (is_listed lines) (map (lined rs) hs) else filter (is_listed lines) (map (lined rs) hs))
          (has_line_is rs lines h.folder.name a ∙ ap is_some e) ∙ rest
      | Some l ↦ λ e. ap (λ b. if b then with_line l h ∷ filter (is_listed lines) (map (lined rs) hs) else filter (is_listed lines) (map (lined rs) hs))
          (has_line_is rs lines h.folder.name a ∙ ap is_some e) ∙ ap (λ (zs : List NumberedFolder). with_line l h ∷ zs) rest
    ] refl

listed_short : (rs : List Response) (hs : List NumberedFolder) → length (listed rs hs) ≤ length hs
listed_short rs [] = omega arith
listed_short rs (h ∷ hs) =
    let rest = listed_short rs hs in
    elim (line_for h.folder.name rs) as (λ o. length (put_listed o h (listed rs hs)) ≤ length (h ∷ hs)) [ None ↦ omega (arith, rest) | Some l ↦ omega (arith, rest) ]

-- where all is listed as it is, each folder is
first_same : (rs : List Response) (h : NumberedFolder) (hs : List NumberedFolder) → listed rs (h ∷ hs) ≡ h ∷ hs → (lined rs h ≡ h) × (listed rs hs ≡ hs)
first_same rs h hs e =
    let rest = listed_short rs hs in
    elim (line_for h.folder.name rs) as (λ o. put_listed o h (listed rs hs) ≡ h ∷ hs → (lined_by o h ≡ h) × (listed rs hs ≡ hs)) [
      | None ↦ λ f. let same : length (listed rs hs) ≡ length (h ∷ hs) = ap length f in absurd (omega (arith, rest, same))
      | Some l ↦ λ f. (heads (with_line l h) h (listed rs hs) hs f, tails (with_line l h) h (listed rs hs) hs f)
    ] e

-- where the folders after a LIST are those before it, their lines tell each as it is
pub listed_lined : (rs : List Response) (hs : List NumberedFolder) → listed rs hs ≡ hs → map (lined rs) hs ≡ hs
listed_lined rs [] e = refl
listed_lined rs (h ∷ hs) e =
    let first = first_same rs h hs e in
    ap (λ (z : NumberedFolder). z ∷ map (lined rs) hs) first.0 ∙ ap (λ (zs : List NumberedFolder). h ∷ zs) (listed_lined rs hs first.1)

-- telling the LIST to all folders, and then taking out those that no line names, leaves the folders as listed
pub listed_mail : (rs : List Response) (lines : BTreeMap (Vec ℕ Global) ℕ) (m now new : Mail) → AreLinesFrom rs 0 lines → now ≡ record m { folders = map (lined rs) m.folders }
    → new ≡ record now { folders = filter (is_listed lines) now.folders } → new ≡ record m { folders = listed rs m.folders }
listed_mail rs lines m now new a e f = f ∙ ap (λ (k : Mail). record k { folders = filter (is_listed lines) k.folders }) e
    ∙ ap (λ (hs : List NumberedFolder). record m { folders = hs }) (listed_as rs lines m.folders a)

-- where the folders after a LIST are those before it, none is taken out
pub listed_known : (rs : List Response) (lines : BTreeMap (Vec ℕ Global) ℕ) (m now : Mail) → AreLinesFrom rs 0 lines → listed rs m.folders ≡ m.folders
    → now ≡ record m { folders = map (lined rs) m.folders } → filter (is_listed lines) now.folders ≡ now.folders
listed_known rs lines m now a same e =
    let here : now.folders ≡ map (lined rs) m.folders = ap (λ (k : Mail). k.folders) e in
    ap (λ (hs : List NumberedFolder). filter (is_listed lines) hs) here ∙ listed_as rs lines m.folders a ∙ same ∙ sym (listed_lined rs m.folders same) ∙ sym here

filter_short : (p : NumberedFolder → Bool) (hs : List NumberedFolder) → length (filter p hs) ≤ length hs
filter_short p [] = omega arith
filter_short p (h ∷ hs) =
    let rest = filter_short p hs in
    elim (p h) as (λ b. length (if b then h ∷ filter p hs else filter p hs) ≤ length (h ∷ hs)) [ true ↦ omega (arith, rest) | false ↦ omega (arith, rest) ]

-- where none is taken out, all stay
pub all_stay : (p : NumberedFolder → Bool) (hs : List NumberedFolder) → length (filter p hs) ≡ length hs → filter p hs ≡ hs
all_stay p [] e = refl
all_stay p (h ∷ hs) e =
    let rest = filter_short p hs in
    elim (p h) as (λ b. length (if b then h ∷ filter p hs else filter p hs) ≡ length (h ∷ hs) → (if b then h ∷ filter p hs else filter p hs) ≡ h ∷ hs) [
      | true ↦ λ f. ap (λ (zs : List NumberedFolder). h ∷ zs) (all_stay p hs (omega (arith, f)))
      | false ↦ λ f. absurd (omega (arith, f, rest))
    ] e

-- one folder more is looked at
pub told_more : (p : NumberedFolder → Bool) (hs : List NumberedFolder) (i : ℕ) (h : NumberedFolder) → i < length hs → h ≡ get_or hs i h → p h ≡ true
    → filter p (take i hs) ++ drop i hs ≡ filter p (take (i + 1) hs) ++ drop (i + 1) hs
told_more p hs i h within is t =
    ap (λ (zs : List NumberedFolder). filter p (take i hs) ++ zs) (left hs i h within is) ∙ sym (append_assoc (filter p (take i hs)) (h ∷ []) (drop (i + 1) hs))
    ∙ ap (λ (zs : List NumberedFolder). filter p (take i hs) ++ zs ++ drop (i + 1) hs) (sym (ap (λ b. if b then h ∷ [] else []) t))
    ∙ ap (λ (zs : List NumberedFolder). zs ++ drop (i + 1) hs) (sym (filter-append p (take i hs) (h ∷ [])) ∙ ap (λ (zs : List NumberedFolder). filter p zs)
    (sym (take_more hs i h within ∙ ap (λ (z : NumberedFolder). take i hs ++ z ∷ []) (sym is))))

-- the folder at a place stands between those that were kept before it and those after it
pub ended_before : (p : NumberedFolder → Bool) (hs : List NumberedFolder) (i : ℕ) (h : NumberedFolder) → i < length hs → h ≡ get_or hs i h
    → filter p (take i hs) ++ drop i hs ≡ filter p (take i hs) ++ h ∷ drop (i + 1) hs
ended_before p hs i h within is = ap (λ (zs : List NumberedFolder). filter p (take i hs) ++ zs) (left hs i h within is)

-- where the folder at a place doesn't pass and is taken out, the folders up to it are looked at
pub ended_after : (p : NumberedFolder → Bool) (hs : List NumberedFolder) (i : ℕ) (h : NumberedFolder) → i < length hs → h ≡ get_or hs i h → p h ≡ false
    → filter p (take i hs) ++ drop (i + 1) hs ≡ filter p (take (i + 1) hs) ++ drop (i + 1) hs
ended_after p hs i h within is t =
    ap (λ (zs : List NumberedFolder). zs ++ drop (i + 1) hs)
    (sym (append-nil (filter p (take i hs))) ∙ ap (λ (zs : List NumberedFolder). filter p (take i hs) ++ zs) (sym (ap (λ b. if b then h ∷ [] else []) t))
    ∙ sym (filter-append p (take i hs) (h ∷ [])) ∙ ap (λ (zs : List NumberedFolder). filter p zs) (sym (take_more hs i h within ∙ ap (λ (z : NumberedFolder). take i hs ++ z ∷ []) (sym is))))

-- once all folders are looked at, those that pass are left
pub told_end : (p : NumberedFolder → Bool) (hs : List NumberedFolder) (i : ℕ) → length hs ≤ i → filter p (take i hs) ++ drop i hs ≡ filter p hs
told_end p hs i h = ap (λ (zs : List NumberedFolder). zs ++ drop i hs) (ap (λ (zs : List NumberedFolder). filter p zs) (whole hs i h)) ∙ ap (λ (zs : List NumberedFolder). filter p hs ++ zs) (gone hs i h)
    ∙ append-nil (filter p hs)
  where
    whole : (zs : List NumberedFolder) (j : ℕ) → length zs ≤ j → take j zs ≡ zs
    whole [] zero l = refl
    whole [] (suc j) l = refl
    whole (z ∷ zs) zero l = absurd (omega arith)
    whole (z ∷ zs) (suc j) l = ap (λ ys. z ∷ ys) (whole zs j (omega arith))

    gone : (zs : List NumberedFolder) (j : ℕ) → length zs ≤ j → drop j zs ≡ []
    gone [] zero l = refl
    gone [] (suc j) l = refl
    gone (z ∷ zs) zero l = absurd (omega arith)
    gone (z ∷ zs) (suc j) l = gone zs j (omega arith)
