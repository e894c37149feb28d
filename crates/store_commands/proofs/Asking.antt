-- What is read may be asked: names have no octet 0, CR or LF, flags are names in kept form, numbers and dates are in their range.
use Rattle.std.proofs.Common.{◌≡◌, ℕ, ◌+◌, ◌-◌, ◌*◌, ◌≤◌, min, Bool, true, false, ℤ, pos, negsuc, ◌-ℤ◌, List, [], ◌∷◌, length, map, cond, Option, Some, None, sym, ap, subst, ◌∙◌}
use Rattle.std.proofs.Common.{arith, inl, inr}
use Rattle.std.proofs.Common.{nat_cmp, bytes_eq, codes}
use Rattle.std.proofs.lemmas.List.{length-map}
use Rattle.std.specs.BTreeSet.{insert_key}
use Rattle.std.specs.Cmp.Lexicographic.{slice_cmp}
use Rattle.std.specs.Ordering.{match_ordering}
use Rattle.std.specs.declared.cmp.Ordering.TheVariants.{Less, Equal, Greater}
use Rattle.jiff_core.proofs.SignedLemmas.{signed_arith}
use Rattle.imap_types.proofs.EachLemmas.{each_to}
use Rattle.imap_types.proofs.KeptLemmas.{kept_again}
use Rattle.imap_types.specs.declared.command.Command.{Command}
use Rattle.imap_types.specs.declared.command.Command.TheVariants as command
use Rattle.imap_types.specs.Octets.{is_text, is_atom, is_inside, lower}
use Rattle.imap_types.specs.Texts.{Each, plain_of, plain_octets}
use Rattle.imap_types.specs.Strings.{IsAtom, IsCounted}
use Rattle.imap_types.specs.Items.{IsName, AllNames, add_name, kept_from}
use Rattle.imap_types.specs.Dates.{seconds_from}
use Rattle.imap_types.specs.DateTimes.{days_to, seconds_of, IsDateTime}
use Rattle.honest_store.specs.WellFormed.{nearest_date}
use Rattle.command_parts.specs.Fields.{fits_octet, AreOctets, IsTag, IsFolderName, IsCredential, IsFlagList}
use Rattle.store_commands.specs.Requests.{IsSelectParameter, IsRequest}
use Rattle.store_commands.specs.Answers.{IsCommand}
use Rattle.store_commands.specs.Written.{IsPlainName, IsLiteralString, AreKeptFlags, IsKnownWithin, IsAskable}

-- ---- names, users and messages

atom_text : (c : ℕ) → is_atom c ≡ true → is_text c ≡ true
atom_text c e = grind arith

text_octet : (c : ℕ) → is_text c ≡ true → fits_octet c ≡ true
text_octet c e = grind arith

name_plain : (s t : List ℕ) → IsFolderName s t → IsPlainName s
name_plain s t (inl a) = subst IsPlainName (sym a.1) (each_to is_atom is_text t atom_text a.0.0)
name_plain s t (inr q) = q.0

inside_octet : (c : ℕ) → is_inside c ≡ true → fits_octet (plain_of c) ≡ true
inside_octet c e = grind arith

inside_octets : (t : List ℕ) → Each is_inside t → AreOctets (plain_octets t)
inside_octets [] h = tt
inside_octets (c ∷ t) h = (inside_octet c h.0, inside_octets t h.1)

counted_octets : (s t : List ℕ) → IsCounted s t → IsLiteralString s
counted_octets s t h =
    let long = ap length h.string ∙ length-map h.octets plain_of in
    (subst AreOctets (sym h.string) (inside_octets h.octets h.inside), omega (arith, long, h.most))

credential_octets : (s t : List ℕ) → IsCredential s t → AreOctets s
credential_octets s t (inl n) = each_to is_text fits_octet s text_octet (name_plain s t n)
credential_octets s t (inr l) = (counted_octets s t l).0

known_within : (known : Option (ℕ × ℕ)) (t : List ℕ) → IsSelectParameter known t → IsKnownWithin known
known_within None t h = tt
known_within (Some known) t h = (h.second.first.1, h.second.second.second.first.1)

-- ---- flags

lower_atom : (c : ℕ) → is_atom c ≡ true → is_atom (lower c) ≡ true
lower_atom c e = grind arith

lower_atoms : (t : List ℕ) → Each is_atom t → Each is_atom (map lower t)
lower_atoms [] h = tt
lower_atoms (c ∷ t) h = (lower_atom c h.0, lower_atoms t h.1)

lower_is_atom : (t : List ℕ) → IsAtom t → IsAtom (map lower t)
lower_is_atom t h = let long = length-map t lower in (lower_atoms t h.0, omega (arith, long, h.1))

lower_name : (n : List ℕ) → IsName n → IsName (map lower n)
lower_name n (inl a) = inl (lower_is_atom n a)
lower_name n (inr a) = inr (map lower a.0, ap (map lower) a.1, lower_is_atom a.0 a.2)

insert_names : (k : List ℕ) (xs : List (List ℕ)) → IsName k → AllNames xs → AllNames (insert_key (slice_cmp nat_cmp) xs k)
insert_names k [] name h = (name, tt)
insert_names k (x ∷ xs) name h = elim (slice_cmp nat_cmp k x) as (λ o. AllNames (match_ordering o (k ∷ x ∷ xs) (x ∷ xs) (x ∷ insert_key (slice_cmp nat_cmp) xs k))) [
  | Less ↦ (name, h)
  | Equal ↦ h
  | Greater ↦ (h.0, insert_names k xs name h.1)
]

add_names : (xs : List (List ℕ)) (n : List ℕ) → AllNames xs → IsName n → AllNames (add_name xs n)
add_names xs n h name = by (bytes_eq n (codes "\\recent"))
  where
    by : (b : Bool) → AllNames (cond b xs (insert_key (slice_cmp nat_cmp) xs n))
    by true = h
    by false = insert_names n xs name h

kept_names : (xs ns : List (List ℕ)) → AllNames xs → AllNames ns → AllNames (kept_from xs ns)
kept_names xs [] h k = h
kept_names xs (n ∷ ns) h k = kept_names (add_name xs (map lower n)) ns (add_names xs (map lower n) h (lower_name n k.0)) k.1

flags_kept : (fs : List (List ℕ)) (t : List ℕ) → IsFlagList fs t → AreKeptFlags fs
flags_kept fs t h = subst AreKeptFlags (sym h.2) (kept_names [] h.0 tt h.1.0, kept_again h.0)

-- ---- dates

seconds_back : (m : ℕ) (z : ℤ) → m ≤ 315569519999 → z ≡ pos m -ℤ pos 62167219200 → seconds_from z ≡ m
seconds_back m (pos n) le e = let f : n + 62167219200 ≡ m = omega (arith, signed_arith, e) in omega (arith, f, le)
seconds_back m (negsuc n) le e = let f : n + 1 + m ≡ 62167219200 = omega (arith, signed_arith, e) in omega (arith, f)

-- seconds that are kept within the years are the nearest of them
within_nearest : (n : ℕ) (z : ℤ) → z ≡ pos (min n 315569519999) -ℤ pos 62167219200 → nearest_date z ≡ z
within_nearest n z e = ap (λ (k : ℕ). pos k -ℤ pos 62167219200) (seconds_back (min n 315569519999) z (omega arith) e) ∙ sym e

date_nearest : (s : ℤ) (t : List ℕ) → IsDateTime s t → nearest_date s ≡ s
date_nearest s t h = by h.east h.value
  where
    days : ℕ
    days = 86400 * (days_to h.year h.month + h.day)

    by : (east : Bool) → s ≡ seconds_of h.year h.month h.day h.time east h.zone → nearest_date s ≡ s
    by true e = within_nearest (days + h.time - (86400 + h.zone)) s e
    by false e = within_nearest (days + h.time + h.zone - 86400) s e

-- ---- commands

request_askable : (c : Command) (t : List ℕ) → IsRequest c t → IsAskable c
request_askable command.Capability t h = tt
request_askable (command.Login user password) t h =
    (credential_octets user h.second.front h.second.first, credential_octets password h.second.second.back h.second.second.second)
request_askable command.Enable t h = tt
request_askable (command.List special_use) t h = tt
request_askable (command.Select name known) t h = (name_plain name h.second.front h.second.first, known_within known h.second.back h.second.second)
request_askable command.Unselect t h = tt
request_askable command.FetchFlags t h = tt
request_askable (command.FetchSlice from to modseq) t h = (h.second.first.1, h.second.second.second.first.1)
request_askable (command.FetchNew from modseq) t h = h.second.first.1
request_askable (command.FetchBody uid) t h = h.second.first.1
request_askable (command.Store uid true flags) t h = (h.second.first.1, flags_kept flags h.second.second.back h.second.second.second)
request_askable (command.Store uid false flags) t h = (h.second.first.1, flags_kept flags h.second.second.back h.second.second.second)
request_askable (command.Move uid name) t h = (h.second.first.1, name_plain name h.second.second.back h.second.second.second)
request_askable (command.Expunge uid) t h = h.second.1
request_askable (command.Append name flags date message) t h =
    let n = h.second in
    let f = n.second.second in
    let d = f.second.second in
    (name_plain name n.front n.first, flags_kept flags f.front f.first, date_nearest date d.front d.first, counted_octets message d.second.back d.second.second)
request_askable (command.Create name) t h = name_plain name h.back h.second
request_askable (command.Delete name) t h = name_plain name h.back h.second
request_askable (command.Rename from to) t h = (name_plain from h.second.front h.second.first, name_plain to h.second.second.back h.second.second.second)
request_askable (command.Subscribe name true) t h = name_plain name h.back h.second
request_askable (command.Subscribe name false) t h = name_plain name h.back h.second

pub command_askable : (b tag : List ℕ) (c : Command) → IsCommand tag c b → IsTag tag × IsAskable c
command_askable b tag c h = (h.reads.tag_is, request_askable c h.reads.asks.front h.reads.asks.first)
