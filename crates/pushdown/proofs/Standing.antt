-- The symbols and the count that octets lead to.
use Rattle.std.proofs.Common.{◌≡◌, ℕ, ◌+◌, ◌<◌, ◌≤◌, Bool, true, false, List, [], ◌∷◌, ◌++◌, cond, Option, Some, None, refl, sym, ap, subst, ◌∙◌, arith}
use Rattle.std.proofs.lemmas.Bool.{le-ltb, lt-ltb}
use Rattle.std.proofs.lemmas.List.{append-nil, map-append}
use Rattle.std.proofs.lemmas.Option.{same_Some}
use Rattle.pushdown.specs.Automaton.{Automaton, Langs}
use Rattle.pushdown.specs.Run.{start, step, stepped, run, inside_top, mark, cost}
use Rattle.pushdown.specs.Flow.{Good}
use Rattle.pushdown.specs.Lawful.{IsLawful}
use Rattle.pushdown.specs.Answers.{IsWhole, IsPrefix, IsProperPrefix}
use Rattle.pushdown.specs.Fed.{LeavesSymbols}
use Rattle.pushdown.proofs.Lists.{cons_head, cons_tail}
use Rattle.pushdown.proofs.Leading.{no_symbols, Alive, run_append, alive}
use Rattle.pushdown.proofs.Whole.{reads_back, reads_forth, reads_some}
use Rattle.pushdown.proofs.Marks.{plain_large, plain_small, forced, start_good, good_of, start_same}
use Rattle.imap_types.specs.Texts.{plain_of, plain_octets, outside}

-- the octets outside literals of two texts joined are those of the first and those of the second, counted together
pub outside_append : (t u : List ℕ) → outside (t ++ u) ≡ outside t + outside u
outside_append [] u = omega arith
outside_append (c ∷ t) u = let ih = outside_append t u in omega (arith, ih)

-- the last octet of a text of octets
record Last (t b : List ℕ) (c : ℕ) : Type 0 where
  front : List ℕ
  last : ℕ
  whole : t ≡ front ++ last ∷ []
  octets : plain_octets front ≡ b
  octet : plain_of last ≡ c

last_of : (t b : List ℕ) (c : ℕ) → plain_octets t ≡ b ++ c ∷ [] → Last t b c
last_of [] [] c e = absurd cc
last_of [] (d ∷ b) c e = absurd cc
last_of (x ∷ []) [] c e = record { front = []; last = x; whole = refl; octets = refl; octet = cc }
last_of (x ∷ y ∷ t) [] c e = absurd cc
last_of (x ∷ t) (d ∷ b) c e =
    let l = last_of t b c (cons_tail (plain_of x) d (plain_octets t) (b ++ c ∷ []) e) in
    record {
      front = x ∷ l.front;
      last = l.last;
      whole = ap (λ (u : List ℕ). x ∷ u) l.whole;
      octets = let q = l.octets in
          let h = cons_head (plain_of x) d (plain_octets t) (b ++ c ∷ []) e in cc;
      octet = l.octet;
    }

-- what one step more would be
pub record Goes {S : Type 0} (machine : Automaton S) (ss : List S) (out : ℕ) (c : ℕ) : Type 0 where
  pub symbols : List S
  pub is : step machine ss (mark machine ss c) ≡ Some symbols
  pub within : out + cost machine ss ≤ machine.limit

module _ {S : Type 0} (machine : Automaton S) (laws : IsLawful machine) where
  -- a text of the language leads to no symbol
  pub read_whole : (t : List ℕ) → machine.language machine.start t → run machine (Some (start machine)) t ≡ Some []
  read_whole t h = reads_forth machine laws t (start machine) (start_good machine laws) (record { front = t; back = []; whole = sym (append-nil t); first = h; second = refl })

  pub stands_good : (ss : List S) (out : ℕ) (b : List ℕ) → LeavesSymbols machine ss out b → Good machine false ss
  stands_good ss out b h = good_of machine laws h.text (start machine) ss (start_good machine laws) h.leads

  mark_plain : (ss : List S) (c : ℕ) → c < 256 → plain_of (mark machine ss c) ≡ c
  mark_plain ss c lt = by (inside_top machine ss)
    where
      by : (b : Bool) → plain_of (cond b (c + 256) c) ≡ c
      by true = plain_large (c + 256) (le-ltb (c + 256) 256 (omega arith)) ∙ omega arith
      by false = plain_small c (lt-ltb c 256 lt)

  mark_cost : (ss : List S) (c : ℕ) → c < 256 → outside (mark machine ss c ∷ []) ≡ cost machine ss
  mark_cost ss c lt = by (inside_top machine ss)
    where
      by : (b : Bool) → outside (cond b (c + 256) c ∷ []) ≡ cond b 0 1
      by true = ap (λ (q : Bool). cond q 1 0 + 0) (le-ltb (c + 256) 256 (omega arith)) ∙ omega arith
      by false = ap (λ (q : Bool). cond q 1 0 + 0) (lt-ltb c 256 lt) ∙ omega arith

  pub stands_step : (ss left : List S) (out : ℕ) (b : List ℕ) (c : ℕ) → LeavesSymbols machine ss out b → c < 256 → step machine ss (mark machine ss c) ≡ Some left
      → out + cost machine ss ≤ machine.limit
      → LeavesSymbols machine left (out + cost machine ss) (b ++ c ∷ [])
  stands_step ss left out b c h lt e w = record {
    text = h.text ++ mark machine ss c ∷ [];
    octets =
        map-append plain_of h.text (mark machine ss c ∷ []) ∙ ap (λ (u : List ℕ). u ++ plain_of (mark machine ss c) ∷ []) h.octets
        ∙ ap (λ (n : ℕ). b ++ n ∷ []) (mark_plain ss c lt);
    leads = run_append machine h.text (mark machine ss c ∷ []) (Some (start machine)) ∙ ap (λ (o : Option (List S)). stepped machine o (mark machine ss c)) h.leads ∙ e;
    counted = omega (arith, h.counted, outside_append h.text (mark machine ss c ∷ []), mark_cost ss c lt);
    within = w;
  }

  -- a text that begins another leads on
  prefix_leads : (b : List ℕ) → (h : IsPrefix machine b) → Alive (run machine (Some (start machine)) h.text)
  prefix_leads b h =
      let all = read_whole (h.text ++ h.more) h.reads in
      alive machine (run machine (Some (start machine)) h.text) h.more [] (sym (run_append machine h.text h.more (Some (start machine))) ∙ all)

  pub prefix_goes : (ss : List S) (out : ℕ) (b : List ℕ) (c : ℕ) → LeavesSymbols machine ss out b → c < 256 → IsPrefix machine (b ++ c ∷ []) → Goes machine ss out c
  prefix_goes ss out b c h lt p =
      let a = prefix_leads (b ++ c ∷ []) p in
      let l = last_of p.text b c p.octets in
      let led : run machine (run machine (Some (start machine)) l.front) (l.last ∷ []) ≡ Some a.symbols =
      sym (run_append machine l.front (l.last ∷ []) (Some (start machine))) ∙ ap (run machine (Some (start machine))) (sym l.whole) ∙ a.is in
      let before = alive machine (run machine (Some (start machine)) l.front) (l.last ∷ []) a.symbols led in
      let same : l.front ≡ h.text = start_same machine laws l.front h.text before.symbols ss before.is h.leads (l.octets ∙ sym h.octets) in
      let at : run machine (Some (start machine)) l.front ≡ Some ss = ap (run machine (Some (start machine))) same ∙ h.leads in
      let went : step machine ss l.last ≡ Some a.symbols = sym (ap (λ (o : Option (List S)). stepped machine o l.last) at) ∙ led in
      let is : l.last ≡ mark machine ss c = forced machine laws false ss a.symbols l.last (stands_good ss out b h) went ∙ ap (mark machine ss) l.octet in
      record {
        symbols = a.symbols;
        is = ap (step machine ss) (sym is) ∙ went;
        within = omega (
          arith,
          p.within,
          ap outside l.whole,
          outside_append l.front (l.last ∷ []),
          ap outside same,
          h.counted,
          ap (λ (n : ℕ). outside (n ∷ [])) is,
          mark_cost ss c lt,
        );
      }

  pub no_prefix_none : (ss : List S) (out : ℕ) (b : List ℕ) (c : ℕ) → LeavesSymbols machine ss out b → c < 256 → step machine ss (mark machine ss c) ≡ None
      → IsPrefix machine (b ++ c ∷ []) → ⊥
  no_prefix_none ss out b c h lt e p = let g = prefix_goes ss out b c h lt p in no_symbols g.symbols (sym e ∙ g.is)

  langs_start : (t : List ℕ) → Langs machine.language (start machine) t → machine.language machine.start t
  langs_start t h = subst (machine.language machine.start) (sym (h.whole ∙ ap (λ (u : List ℕ). h.front ++ u) h.second ∙ append-nil h.front)) h.first

  pub stands_whole : (out : ℕ) (b : List ℕ) → LeavesSymbols machine [] out b → IsWhole machine b
  stands_whole out b h = record {
    text = h.text;
    reads = langs_start h.text (reads_back machine laws h.text (start machine) (start_good machine laws) h.leads);
    octets = h.octets;
    within = omega (arith, h.within, h.counted);
  }

  no_end : (s : S) (ss : List S) → Some (s ∷ ss) ≡ Some [] → ⊥
  no_end s ss e = let q = same_Some (s ∷ ss) [] e in cc

  pub stands_proper : (s : S) (ss : List S) (out : ℕ) (b : List ℕ) → LeavesSymbols machine (s ∷ ss) out b → IsProperPrefix machine b
  stands_proper s ss out b h =
      let good = stands_good (s ∷ ss) out b h in
      let m = reads_some machine laws false (s ∷ ss) good in
      let on : run machine (Some (s ∷ ss)) m.0 ≡ Some [] = reads_forth machine laws m.0 (s ∷ ss) good m.1 in
      let all : run machine (Some (start machine)) (h.text ++ m.0) ≡ Some [] =
      run_append machine h.text m.0 (Some (start machine)) ∙ ap (λ (o : Option (List S)). run machine o m.0) h.leads ∙ on in
      record {
        text = h.text;
        more = m.0;
        reads = langs_start (h.text ++ m.0) (reads_back machine laws (h.text ++ m.0) (start machine) (start_good machine laws) all);
        octets = h.octets;
        within = omega (arith, h.within, h.counted);
        proper = λ e. no_end s ss (sym (ap (run machine (Some (s ∷ ss))) e) ∙ on);
      }
