-- The Thread that is reckoned over all rows is that of the rule.
use Rattle.std.proofs.Common.{◌≡◌, ℕ, ◌<◌, ◌≤◌, Bool, true, false, ◌&&◌, cond, eqb-true, eq-eqb, List, [], ◌∷◌, refl, sym, ap, ◌∙◌, subst, arith, Option, Some, None}
use Rattle.std.specs.List.{AllByRecursion}
use Rattle.std.specs.Option.{unwrap_or}
use Rattle.std.specs.List.Sorted.{IsStrictlySortedBy}
use Rattle.std.specs.Map.{keys_of}
use Rattle.std.specs.Ordering.{nat_cmp}
use Rattle.std.specs.BTreeMap.{is_at}
use Rattle.std.specs.declared.cmp.Ordering.TheVariants.{Less}
use Rattle.std.proofs.lemmas.Map.Keys.{sorted_head, sorted_tail}
use Rattle.text_words.specs.Octets.{is_same_text}
use Rattle.thread_rule.specs.declared.member.Member.{Member}
use Rattle.thread_rule.specs.Threads.{Members, member_at, is_among, Shares, IsThreadOf, Founds, Joins, Passes}
use Rattle.thread_rule.proofs.IndexLemmas.{number_test}
use Rattle.thread_rule.proofs.SearchLemmas.{less_is, same_is, same_test}
use Rattle.mail_rows.specs.Joining.{shares, first_shared, thread_in}

-- the lowest that shares is in this Thread
record Least (members : Members) (base id : List ℕ) (thread : ℕ) : Type 0 where
  pub email : ℕ
  pub member : Member
  pub shares : Shares members base id email member
  pub is : thread ≡ member.thread
  pub least : (other : ℕ) (m : Member) → Shares members base id other m → email ≤ other

abbrev Finds : Members → List ℕ → List ℕ → Option ℕ → Type 0
Finds members base id None = (other : ℕ) (m : Member) → Shares members base id other m → ⊥
Finds members base id (Some t) = Least members base id t

both : (a b : Bool) → (a && b) ≡ true → (a ≡ true) × (b ≡ true)
both true b e = (refl, e)
both false b e = absurd (let f : false ≡ true = e in cc)

found_above : (k : ℕ) (es : Members) → AllByRecursion (λ z. nat_cmp k z ≡ Less) (keys_of es) → (other : ℕ) (m : Member) → member_at es other ≡ Some m → k < other
found_above k [] a other m e = absurd (let f : None ≡ Some m = e in cc)
found_above k (x ∷ es) a other m e =
    elim (is_at (nat_cmp other) x.0) as (λ (q : Bool). is_at (nat_cmp other) x.0 ≡ q → cond q (Some x.1) (member_at es other) ≡ Some m → k < other) [
      | true ↦ λ is f. let s : other ≡ x.0 = eqb-true other x.0 (sym (number_test other x.0) ∙ is) in let l = less_is k x.0 a.0 in omega (arith, s, l)
      | false ↦ λ is f. found_above k es a.1 other m f
    ] refl e

shares_test : (members : Members) (base id : List ℕ) (other : ℕ) (m : Member) → Shares members base id other m → shares base id m ≡ true
shares_test members base id other m h = ap (λ (q : Bool). q && is_same_text m.base base) h.named ∙ same_test m.base base h.same

at_front : (e : ℕ × Member) (es : Members) (other : ℕ) (m : Member) → is_at (nat_cmp other) e.0 ≡ true → member_at (e ∷ es) other ≡ Some m → e.1 ≡ m
at_front e es other m is h = let f : Some e.1 ≡ Some m = sym (ap (λ (q : Bool). cond q (Some e.1) (member_at es other)) is) ∙ h in cc

behind : (e : ℕ × Member) (es : Members) (base id : List ℕ) (other : ℕ) (m : Member) → is_at (nat_cmp other) e.0 ≡ false → Shares (e ∷ es) base id other m
    → Shares es base id other m
behind e es base id other m is h = record { there = sym (ap (λ (q : Bool). cond q (Some e.1) (member_at es other)) is) ∙ h.there; named = h.named; same = h.same }

not_at : (a b : ℕ) → a < b → is_at (nat_cmp b) a ≡ false
not_at a b l = number_test b a ∙ (let f : a < b = l in grind arith)

first_is : (members : Members) (base id : List ℕ) → IsStrictlySortedBy nat_cmp (keys_of members) → Finds members base id (first_shared base id members)
first_is [] base id s = λ other m h. let f : None ≡ Some m = h.there in cc
first_is (e ∷ es) base id s = by (shares base id e.1) refl (first_is es base id (sorted_tail nat_cmp e.0 (keys_of es) s))
  where
    above : (other : ℕ) (m : Member) → member_at es other ≡ Some m → e.0 < other
    above other m h = found_above e.0 es (sorted_head nat_cmp e.0 (keys_of es) s) other m h

    lift : shares base id e.1 ≡ false → (o : Option ℕ) → Finds es base id o → Finds (e ∷ es) base id o
    lift k None f = λ other m h.
        elim (is_at (nat_cmp other) e.0) as (λ (q : Bool). is_at (nat_cmp other) e.0 ≡ q → ⊥) [
          | true ↦ λ is. let g : false ≡ true = sym k ∙ ap (shares base id) (at_front e es other m is h.there) ∙ shares_test (e ∷ es) base id other m h in cc
          | false ↦ λ is. f other m (behind e es base id other m is h)
        ] refl
    lift k (Some t) f = record {
      email = f.email;
      member = f.member;
      shares = record {
        there = ap (λ (q : Bool). cond q (Some e.1) (member_at es f.email)) (not_at e.0 f.email (above f.email f.member f.shares.there)) ∙ f.shares.there;
        named =
            f.shares.named;
        same = f.shares.same;
      };
      is = f.is;
      least = λ other m h.
          elim (is_at (nat_cmp other) e.0) as (λ (q : Bool). is_at (nat_cmp other) e.0 ≡ q → f.email ≤ other) [
            | true ↦ λ is. absurd (let g : false ≡ true = sym k ∙ ap (shares base id) (at_front e es other m is h.there) ∙ shares_test (e ∷ es) base id other m h in cc)
            | false ↦ λ is. f.least other m (behind e es base id other m is h)
          ] refl;
    }

    by : (q : Bool) → shares base id e.1 ≡ q → Finds es base id (first_shared base id es) → Finds (e ∷ es) base id (cond q (Some e.1.thread) (first_shared base id es))
    by true k f =
        let p = both (is_among e.1.ids id) (is_same_text e.1.base base) k in record {
          email = e.0;
          member = e.1;
          shares = record {
            there = ap (λ (q : Bool). cond q (Some e.1) (member_at es e.0)) (number_test e.0 e.0 ∙ eq-eqb e.0 e.0 refl);
            named = p.0;
            same =
                same_is e.1.base base p.1;
          };
          is = refl;
          least = λ other m h.
              elim (is_at (nat_cmp other) e.0) as (λ (q : Bool). is_at (nat_cmp other) e.0 ≡ q → e.0 ≤ other) [
                | true ↦ λ is. let s : other ≡ e.0 = eqb-true other e.0 (sym (number_test other e.0) ∙ is) in omega (arith, s)
                | false ↦ λ is. let l = above other m (behind e es base id other m is h).there in omega (arith, l)
              ] refl;
        }
    by false k f = lift k (first_shared base id es) f

-- the Thread that is sought among all members is that of the rule
pub thread_is : (members : Members) (base : List ℕ) (number : ℕ) (ids : List (List ℕ)) → IsStrictlySortedBy nat_cmp (keys_of members) → IsThreadOf members base number ids
    (thread_in members base number ids)
thread_is members base number [] s = Founds
thread_is members base number (id ∷ ids) s = by (first_shared base id members) (first_is members base id s) (thread_is members base number ids s)
  where
    by : (o : Option ℕ) → Finds members base id o → IsThreadOf members base number ids (thread_in members base number ids) → IsThreadOf members base number (id ∷ ids)
        (unwrap_or o (thread_in members base number ids))
    by None f r = Passes id ids (thread_in members base number ids) f r
    by (Some t) f r = let P : ℕ → Type 0 = λ x. IsThreadOf members base number (id ∷ ids) x in subst P (sym f.is) (Joins id ids f.email f.member f.shares f.least)
