-- At each legal history something is to be told of all bytes.
use Rattle.std.proofs.Common.{◌≡◌, ℕ, ◌≤◌, max, Bool, true, false, cond, suc, zero, List, [], ◌∷◌, length, map, Option, Some, None, Result, Ok, Err, refl, sym, ap, subst, ◌∙◌, arith, inl, inr}
use Rattle.std.specs.Prelude.{◌↔◌, ◌==◌, ◌&&◌, filter, is_some, nat_le, nat_lt, take, Contains}
use Rattle.std.specs.FinMap as fin
use Rattle.std.specs.List.{list_any, AllByRecursion}
use Rattle.std.specs.Ordering.{match_ordering, is_eq}
use Rattle.std.specs.declared.cmp.Ordering.TheVariants.{Less, Equal, Greater}
use Rattle.std.proofs.lemmas.Bool.{leb-true, leb-false}
use Rattle.std.proofs.lemmas.Cmp.{nat_list_cmp_total}
use Rattle.slp_text.proofs.KeySets.{member_cases}
use Rattle.slp_text.specs.Lists.{comma_list}
use Rattle.slp_text.specs.Words.{bytes_cmp, bytes_eq, IsAscending}
use Rattle.attr_list.specs.Maps.{joined_attributes, selected_attributes}
use Rattle.slp_headers.specs.Headers.{Heading, heading_of}
use Rattle.slp_messages.specs.declared.code.TheConstants.{OK}
use Rattle.slp_messages.specs.declared.message.Message.{Message}
use Rattle.slp_messages.specs.declared.message.Message.TheVariants as message
use Rattle.slp_fields.specs.declared.fault.WireFault.{WireFault}
use Rattle.slp_wire.specs.Reading.{reading}
use Rattle.slp_wire.specs.Spelling.{plain_bytes}
use Rattle.registry_core.specs.declared.entry.Entry.{Entry}
use Rattle.registry_core.specs.Entries.{Entries, entries_of_list, if_kept, is_kind, outlives, pair_of, passing_entries, IsDistinct, IsListing}
use Rattle.registry_core.proofs.Lists.{entries_of_list-placed, find-if_kept, get-entries_of_list, passing_entries-is, placed, IsDistinct-filter, IsDistinct-placed, listing}
use Rattle.access_rules.specs.Deciding.{is_hide_about, is_rule_about}
use Rattle.access_rules.proofs.Abouts.{see_alike}
use Rattle.access_rules.proofs.Parts.{whole_part}
use Rattle.directory_judge.specs.Contents.{Content, Stores, Edits, Withdraws, Sweeps, Reloads, content_on, moment_in}
use Rattle.directory_judge.specs.History.{Event, History, now}
use Rattle.directory_judge.specs.Judgements.{by_step, code_by, judgement, supports}
use Rattle.directory_judge.specs.declared.reason.Because.{Because}
use Rattle.directory_judge.specs.declared.reason.Decider.TheVariants as decider
use Rattle.directory_questions.specs.Answers.{Sense, Settled, Lists, Describes, Names, Changes, IsAnswer, IsAnswerTo, IsCutReply, IsDescription, IsListed, IsTypeAnswer, language_outcome, question_of, sense_of_message, sense_of_question, sense_of_reading, sense_under, sense_within}
use Rattle.directory_questions.specs.Calls.{Opening, Call, standpoint_of}
use Rattle.directory_questions.specs.Cuts.{attributes_with, services_with, types_with}
use Rattle.directory_questions.specs.Items.{attribute_texts, is_target, is_under, is_wanted, kind_asked, IsAskedAbout, IsElsewhere, IsForeign, IsOpenNow}
use Rattle.directory_questions.specs.Outcomes.{Outcome, acknowledgement_of, code_outcome, outcome, sent_of}
use Rattle.directory_questions.specs.Sights.{asked_scopes}
use Rattle.directory_questions.specs.Verdicts.{change_in, grounds, IsLegal}
use Rattle.directory_questions.specs.declared.query.Authority.{Authority}
use Rattle.directory_questions.specs.declared.query.Authority.TheVariants as authority
use Rattle.directory_questions.specs.declared.query.AttrQuery.{AttrQuery}
use Rattle.directory_questions.specs.declared.query.ServiceQuery.{ServiceQuery}
use Rattle.directory_questions.specs.declared.query.Target.{Target}
use Rattle.directory_questions.specs.declared.query.Target.TheVariants.{Kind, Place}
use Rattle.directory_questions.specs.declared.query.TypeQuery.{TypeQuery}
use Rattle.directory_questions.specs.declared.question.Question.{Question}
use Rattle.directory_questions.specs.declared.question.Question.TheVariants as question
use Rattle.directory_state.specs.Folds.{Fold}
use Rattle.directory_state.specs.Searches.{deadlines_with, is_seen, item_at, seen_of, spoken_of, HasOneOfEachPair, IsArranged, IsIn}
use Rattle.directory_state.specs.State.{State, is_full_for, state_after, state_changed, swept}
use Rattle.directory_state.specs.Viewers.{IsViewerOf}
use Rattle.directory_state.specs.declared.search.Spoken.TheVariants.{Nothing, Others, Asked}
use Rattle.directory_state.specs.declared.asked.Viewer.{Viewer}
use Rattle.directory_state.proofs.ArrangedEntries.{all_elsewhere, arranged-in_order, none_here, some_here, types-arranged}
use Rattle.directory_state.proofs.Joins.{is_same, reversed}
use Rattle.directory_state.proofs.Judgements.{AreLive-state}
use Rattle.directory_state.proofs.LegalHistories.{Fold-events}
use Rattle.directory_state.proofs.OpenEntries.{from-filter, mapped-from, seen-once, seen-open, Contains-filter, KeepsTest}
use Rattle.directory_state.proofs.Outcomes.{elsewhere-carried}
use Rattle.directory_state.proofs.SearchAnswers.{foreign-is, is-foreign, services-are}
use Rattle.directory_state.proofs.SeenUrls.{here, there}
use Rattle.slp_answer.proofs.Sizes.{reply_size}
use Rattle.slp_replies.proofs.TextFronts.{attributes_size, types_size}
use Rattle.directory_runs.proofs.Fitting.{short_language}

-- ---- what a state holds is a list

record Held (m : Entries) : Type 0 where
  es : List Entry
  once : IsDistinct es
  is : m ≡ entries_of_list es

held-empty : Held fin.empty
held-empty = record { es = []; once = tt; is = refl }

held-passing : (p : Entry → Bool) (m : Entries) → Held m → Held (passing_entries p m)
held-passing p m h = record {
  es = filter p h.es;
  once = IsDistinct-filter p h.es h.once;
  is = ap (passing_entries p) h.is ∙ sym (passing_entries-is p (entries_of_list h.es) (entries_of_list (filter p h.es)) (λ q. get-entries_of_list (filter p h.es) q ∙ (find-if_kept p h.es q h.once ∙ ap (if_kept p) (sym (get-entries_of_list h.es q)))));
}

held-inserted : (e : Entry) (m : Entries) → Held m → Held (fin.insert m (pair_of e) e)
held-inserted e m h = record {
  es = placed e h.es;
  once = IsDistinct-placed e h.es h.once;
  is = ap (λ (x : Entries). fin.insert x (pair_of e) e) h.is ∙ sym (entries_of_list-placed e h.es);
}

held-if : (b : Bool) (m n : Entries) → Held m → Held n → Held (cond b m n)
held-if true m n h k = h
held-if false m n h k = k

held-changed : (c : Content) (s : State) → Held s.entries → Held (state_changed c s).entries
held-changed (Stores m e) s h = held-if (is_full_for s.site.capacity e s.entries) s.entries (fin.insert s.entries (pair_of e) e) h (held-inserted e s.entries h)
held-changed (Edits m e) s h = held-if (is_some (fin.get s.entries (pair_of e))) (fin.insert s.entries (pair_of e) e) s.entries (held-inserted e s.entries h) h
held-changed (Withdraws m w) s h = held-passing _ s.entries h
held-changed (Sweeps m) s h = h
held-changed (Reloads m rs) s h = h

held-after : (o : Opening) (h : History) → Held (state_after o h).entries
held-after o [] = held-empty
held-after o (c ∷ h) =
    let s = state_after o h in
    let x = content_on (passing_entries (outlives c.moment) s.entries) c in
    held-changed x (swept (moment_in x) s) (held-passing (outlives (moment_in x)) s.entries (held-after o h))

-- ---- in the order of a text

module _ (text : Entry → List ℕ) where
  abbrev joined-by : Entry → List Entry → List Entry
  joined-by e [] = e ∷ []
  joined-by e (x ∷ xs) = match_ordering (bytes_cmp (text e) (text x)) (e ∷ x ∷ xs) (x ∷ xs) (x ∷ joined-by e xs)

  all-joined : (Q : List ℕ → Type 0) (e : Entry) (xs : List Entry) → Q (text e) → AllByRecursion Q (map text xs) → AllByRecursion Q (map text (joined-by e xs))
  all-joined Q e [] q all = (q, tt)
  all-joined Q e (x ∷ xs) q all = elim (bytes_cmp (text e) (text x)) as (λ r. AllByRecursion Q (map text (match_ordering r (e ∷ x ∷ xs) (x ∷ xs) (x ∷ joined-by e xs)))) [
    | Less ↦ (q, all)
    | Equal ↦ all
    | Greater ↦ (all.0, all-joined Q e xs q all.1)
  ]

  below : (a b : List ℕ) (us : List (List ℕ)) → bytes_cmp a b ≡ Less → AllByRecursion (λ w. bytes_cmp b w ≡ Less) us → AllByRecursion (λ w. bytes_cmp a w ≡ Less) us
  below a b [] h all = tt
  below a b (u ∷ us) h all = (nat_list_cmp_total.trans a b u h all.0, below a b us h all.1)

  ascending-joined : (e : Entry) (xs : List Entry) → IsAscending (map text xs) → IsAscending (map text (joined-by e xs))
  ascending-joined e [] up = (tt, tt)
  ascending-joined e (x ∷ xs) up = elim (bytes_cmp (text e) (text x)) as (λ r. bytes_cmp (text e) (text x) ≡ r → IsAscending (map text (match_ordering r (e ∷ x ∷ xs) (x ∷ xs) (x ∷ joined-by e xs)))) [
    | Less ↦ λ is. ((is, below (text e) (text x) (map text xs) is up.0), up)
    | Equal ↦ λ is. up
    | Greater ↦ λ is. (all-joined (λ w. bytes_cmp (text x) w ≡ Less) e xs (reversed (text e) (text x) Greater is) up.0, ascending-joined e xs up.1)
  ] refl

  within-joined : (e : Entry) (xs : List Entry) (y : Entry) → Contains (joined-by e xs) y → Contains (e ∷ xs) y
  within-joined e [] y has = has
  within-joined e (x ∷ xs) y has = (elim (bytes_cmp (text e) (text x)) as (λ r. Contains (match_ordering r (e ∷ x ∷ xs) (x ∷ xs) (x ∷ joined-by e xs)) y → Contains (e ∷ x ∷ xs) y) [
    | Less ↦ λ k. k
    | Equal ↦ λ k. there e y (x ∷ xs) k
    | Greater ↦ λ k. elim (member_cases x y (joined-by e xs) k) [
      | inl same ↦ there e y (x ∷ xs) (subst (λ (z : Entry). Contains (x ∷ xs) z) same (here x xs))
      | inr rest ↦ elim (member_cases e y xs (within-joined e xs y rest)) [
        | inl same ↦ subst (λ (z : Entry). Contains (e ∷ x ∷ xs) z) same (here e (x ∷ xs))
        | inr more ↦ there e y (x ∷ xs) (there x y xs more)
      ]
    ]
  ]) has

  covers-new : (e : Entry) (xs : List Entry) → Contains (map text (joined-by e xs)) (text e)
  covers-new e [] = here (text e) []
  covers-new e (x ∷ xs) = elim (bytes_cmp (text e) (text x)) as (λ r. bytes_cmp (text e) (text x) ≡ r → Contains (map text (match_ordering r (e ∷ x ∷ xs) (x ∷ xs) (x ∷ joined-by e xs))) (text e)) [
    | Less ↦ λ is. here (text e) (map text (x ∷ xs))
    | Equal ↦ λ is. subst (λ (t : List ℕ). Contains (map text (x ∷ xs)) t) (sym (is_same (text e) (text x) (ap is_eq is))) (here (text x) (map text xs))
    | Greater ↦ λ is. there (text x) (text e) (map text (joined-by e xs)) (covers-new e xs)
  ] refl

  covers-old : (e : Entry) (xs : List Entry) (t : List ℕ) → Contains (map text xs) t → Contains (map text (joined-by e xs)) t
  covers-old e [] t has = there (text e) t [] has
  covers-old e (x ∷ xs) t has = elim (bytes_cmp (text e) (text x)) as (λ r. Contains (map text (match_ordering r (e ∷ x ∷ xs) (x ∷ xs) (x ∷ joined-by e xs))) t) [
    | Less ↦ there (text e) t (map text (x ∷ xs)) has
    | Equal ↦ has
    | Greater ↦ elim (member_cases (text x) t (map text xs) has) [
      | inl same ↦ subst (λ (u : List ℕ). Contains (text x ∷ map text (joined-by e xs)) u) same (here (text x) (map text (joined-by e xs)))
      | inr rest ↦ there (text x) t (map text (joined-by e xs)) (covers-old e xs t rest)
    ]
  ]

  in-order : (es : List Entry) → (arranged : List Entry) × IsArranged text es arranged
  in-order [] = ([], record { ordered = tt; within = λ e has. has; covers = λ e has. absurd (omega (arith, has.1)) })
  in-order (e ∷ es) =
      let below = in-order es in (
        joined-by e below.0,
        record {
          ordered = ascending-joined e below.0 below.1.ordered;
          within = λ y has. elim (member_cases e y below.0 (within-joined e below.0 y has)) [
            | inl same ↦ subst (λ (z : Entry). Contains (e ∷ es) z) same (here e es)
            | inr rest ↦ there e y es (below.1.within y rest)
          ];
          covers = λ y has. elim (member_cases e y es has) [
            | inl same ↦ subst (λ (z : Entry). Contains (map text (joined-by e below.0)) (text z)) same (covers-new e below.0)
            | inr rest ↦ covers-old e below.0 (text y) (below.1.covers y rest)
          ];
        },
      )

-- ---- the longest front

greatest : (f : ℕ → ℕ) (limit n : ℕ) → f 0 ≤ limit → (k : ℕ) × (k ≤ n) × (f k ≤ limit) × ((j : ℕ) → j ≤ n → f j ≤ limit → j ≤ k)
greatest f limit zero fits = (0, omega arith, fits, λ j le _. le)
greatest f limit (suc n) fits = elim (nat_le (f (suc n)) limit) as (λ b. nat_le (f (suc n)) limit ≡ b → (k : ℕ) × (k ≤ suc n) × (f k ≤ limit) × ((j : ℕ) → j ≤ suc n → f j ≤ limit → j ≤ k)) [
  | true ↦ λ yes. (suc n, omega arith, leb-true (f (suc n)) limit yes, λ j le _. le)
  | false ↦ λ no.
      let below = greatest f limit n fits in
      let over = leb-false (f (suc n)) limit no in
      let le = below.1 in
      (below.0, omega (arith, le), below.2, λ j less ok. below.3 j (smaller j (λ same. omega (arith, over, ok, ap f same)) less) ok)
] refl
  where
    smaller : (j : ℕ) → (j ≡ suc n → ⊥) → j ≤ suc n → j ≤ n
    smaller j apart less = grind (arith, apart, less)

cut_reply : {A : Type 0} (listed : List A → ℕ → Message) (limit : ℕ) (h : Heading) (because : Because) (items : List A) → length (plain_bytes (listed items 0)) ≤ limit → (r : Outcome) × IsCutReply listed limit h because items r
cut_reply listed limit h because items fits =
    let k = greatest (λ n. length (plain_bytes (listed items n))) limit (length items) fits in
    let whole = plain_bytes (listed items k.0) in
    (outcome (sent_of h OK (length items == 0) whole) OK because, record { whole = whole; cut = record { count = k.0; within = k.1; fits = k.2; longest = k.3; spelled = refl }; sent = refl })

-- ---- what is told

-- it is seen, and asked for
abbrev finds : ServiceQuery → Viewer → Entry → Bool
finds q v e = is_seen v e && is_wanted q (seen_of v e)

keeps_target : (t : Target) → KeepsTest (is_target t)
keeps_target (Kind k) e a = refl
keeps_target (Place u) e a = refl

keeps_under : (n : Authority) → KeepsTest (is_under n)
keeps_under authority.All e a = refl
keeps_under authority.Unnamed e a = refl
keeps_under (authority.Named x) e a = refl

module _ (o : Opening) (h : History) (legal : IsLegal o h) (c : Call) (datagram : 1400 ≤ c.limit) where
  abbrev s : State
  s = state_after o h

  fold : Fold o h s
  fold = Fold-events o h legal

  held : Held s.entries
  held = held-after o h

  abbrev viewer : List (List ℕ) → Viewer
  viewer scopes = record { asker = c.asker; moment = max c.moment s.clock; rules = record { ref_ptr = (0, 0); now = s.rules }; about = record { rules = record { ref_ptr = (0, 0); now = s.rules.rules }; hides = record { ref_ptr = (0, 0); now = s.rules.hides } }; asked = asked_scopes s.site scopes; asks_much = false; alike = see_alike c.asker s.rules s.rules (whole_part (λ r. is_rule_about r c.asker) s.rules.rules) (whole_part (λ h. is_hide_about h c.asker) s.rules.hides) }

  views : (scopes : List (List ℕ)) → IsViewerOf s c.moment c.asker scopes (viewer scopes)
  views scopes = record { rules = refl; asked = refl; asks = refl; acts = refl }

  listed : (p : Entry → Bool) → IsListing p s.entries (filter p held.es)
  listed p = subst (λ (m : Entries). IsListing p m (filter p held.es)) (sym held.is) (listing p held.es held.once)

  module _ (head : Heading) (tag : length head.language ≤ 64) where
    services_told : (q : ServiceQuery) → (r : Outcome) × IsListed (IsOpenNow (standpoint_of o h c) q.scopes) (now h c.moment) c.limit head q r
    services_told q =
        let v = viewer q.scopes in
        let es = filter (is_kind (Some q.kind)) held.es in
        let l = listed (is_kind (Some q.kind)) in
        let items = map (item_at (max c.moment s.clock)) (deadlines_with (filter (finds q v) es) []) in
        let told : ¬ IsForeign (IsOpenNow (standpoint_of o h c) q.scopes) q → (r : Outcome) × IsListed (IsOpenNow (standpoint_of o h c) q.scopes) (now h c.moment) c.limit head q r = λ none.
        let r = cut_reply (services_with head) c.limit head (by_step decider.Nobody (Some q.kind)) items (omega (arith, datagram, tag, reply_size head items 0)) in
        (r.0, inr (none, record { items = items; are = services-are o h s c.moment c.asker q v es fold (views q.scopes) l legal; reply = r.1 })) in
        elim (is_some q.filter) as (λ b. is_some q.filter ≡ b → (r : Outcome) × IsListed (IsOpenNow (standpoint_of o h c) q.scopes) (now h c.moment) c.limit head q r) [
          | true ↦ λ filtered. elim (spoken_of q (filter (is_seen v) es)) as (λ x. spoken_of q (filter (is_seen v) es) ≡ x → (r : Outcome) × IsListed (IsOpenNow (standpoint_of o h c) q.scopes) (now h c.moment) c.limit head q r) [
            | Others ↦ λ is. (language_outcome head (Some q.kind), inl (foreign-is o h s c.moment c.asker q v es fold (views q.scopes) l filtered is, refl))
            | Nothing ↦ λ is. told (λ f. let k = sym is ∙ is-foreign o h s c.moment c.asker q v es fold (views q.scopes) l f in cc)
            | Asked ↦ λ is. told (λ f. let k = sym is ∙ is-foreign o h s c.moment c.asker q v es fold (views q.scopes) l f in cc)
          ] refl
          | false ↦ λ not. told (λ f. let k = sym not ∙ f.filtered in cc)
        ] refl

    module _ (q : AttrQuery) where
      abbrev shown_about : List Entry
      shown_about = map (seen_of (viewer q.scopes)) (filter (is_seen (viewer q.scopes)) (filter (is_target q.target) held.es))

      abbrev About : Entry → Type 0
      About = IsAskedAbout (IsOpenNow (standpoint_of o h c) q.scopes) q

      abbrev spoken_about : List Entry
      spoken_about = filter (λ e. bytes_eq e.language q.language) shown_about

      about : (e : Entry) → IsIn shown_about e ↔ About e
      about = seen-open o h s c.moment c.asker q.scopes (viewer q.scopes) (is_target q.target) (filter (is_target q.target) held.es) fold (views q.scopes) (keeps_target q.target) (listed (is_target q.target))

      about_once : HasOneOfEachPair shown_about
      about_once e f has other same =
          let v = viewer q.scopes in
          let es = filter (is_target q.target) held.es in
          let a = mapped-from (seen_of v) (filter (is_seen v) es) e has in
          let b = mapped-from (seen_of v) (filter (is_seen v) es) f other in
          let pairs : pair_of a.0 ≡ pair_of b.0 = ap (λ (x : Entry). pair_of x) a.2 ∙ (same ∙ ap (λ (x : Entry). pair_of x) (sym b.2)) in
          sym a.2 ∙ (ap (seen_of v) (seen-once (is_target q.target) s.entries es (listed (is_target q.target)) (is_seen v) a.0 b.0 a.1 b.1 pairs) ∙ b.2)

      about_told : ¬ IsElsewhere (IsIn shown_about) q.language → (r : Outcome) × IsDescription (IsOpenNow (standpoint_of o h c) q.scopes) c.limit head q r
      about_told none =
          let order = in-order (λ e. e.url) spoken_about in
          let all = arranged-in_order q.language shown_about order.0 about_once order.1 in
          let a = selected_attributes (joined_attributes (map (λ e. e.attrs) order.0)) q.tags in
          let texts = attribute_texts a in
          let r = cut_reply (attributes_with head) c.limit head (by_step decider.Nobody (kind_asked q.target)) texts
          (omega (arith, datagram, tag, attributes_size head (nat_lt 0 (length texts)) (comma_list (take 0 texts)))) in (
            r.0,
            inr (
              (λ f. none (elsewhere-carried About (IsIn shown_about) (λ e. ((about e).1, (about e).0)) q.language f)),
              record {
                attributes = a;
                are = record {
                  from = order.0;
                  in_order = record {
                    ordered = all.ordered;
                    each = λ e has. let k = all.each e has in record { matched = (about e).0 k.0; language = k.1 };
                    all = λ e d. all.all e ((about e).1 d.matched, d.language);
                  };
                  joined = refl;
                };
                reply = r.1;
              },
            ),
          )

      attributes_told : (r : Outcome) × IsDescription (IsOpenNow (standpoint_of o h c) q.scopes) c.limit head q r
      attributes_told = elim spoken_about as (λ xs. spoken_about ≡ xs → (r : Outcome) × IsDescription (IsOpenNow (standpoint_of o h c) q.scopes) c.limit head q r) [
        | [] ↦ λ none. elim shown_about as (λ ys. shown_about ≡ ys → (r : Outcome) × IsDescription (IsOpenNow (standpoint_of o h c) q.scopes) c.limit head q r) [
          | [] ↦ λ empty. about_told (none_here q.language shown_about empty)
          | y ∷ ys ↦ λ is. (
            language_outcome head (kind_asked q.target),
            inl (elsewhere-carried (IsIn shown_about) About about q.language (all_elsewhere q.language shown_about none (λ empty. let k = sym is ∙ empty in cc)), refl),
          )
        ] refl
        | x ∷ xs ↦ λ is. about_told (some_here q.language shown_about (λ none. let k = sym is ∙ none in cc))
      ] refl

    types_told : (q : TypeQuery) → (r : Outcome) × IsTypeAnswer (IsOpenNow (standpoint_of o h c) q.scopes) c.limit head q r
    types_told q =
        let v = viewer q.scopes in
        let p = is_under q.authority in
        let found = map (seen_of v) (filter (is_seen v) (filter p held.es)) in
        let alike = seen-open o h s c.moment c.asker q.scopes v p (filter p held.es) fold (views q.scopes) (keeps_under q.authority) (listed p) in
        let order = in-order (λ e. e.kind) (filter p found) in
        let base = types-arranged (filter p found) order.0 order.1 in
        let types = map (λ e. e.kind) order.0 in
        let r = cut_reply (types_with head) c.limit head (by_step decider.Nobody None) types (omega (arith, datagram, tag, types_size head (nat_lt 0 (length types)) (comma_list (take 0 types)))) in (
          r.0,
          record {
            types = types;
            are = record {
              ordered = base.ordered;
              each = λ t has. let k = base.each t has in (k.0, (alike k.0).0 (from-filter p found k.0 k.1), k.2);
              all = λ e m. base.all e (Contains-filter p found e ((alike e).1 m) m.about);
            };
            reply = r.1;
          },
        )

    -- verdicts
    changes_told : (m : Message) → (r : Outcome) × (change : Option Event) × IsAnswerTo o h c (Changes head m) r change
    changes_told m =
        let live = passing_entries (outlives (max c.moment s.clock)) s.entries in
        let v = judgement (grounds (standpoint_of o h c) live) m in
        (acknowledgement_of head v, change_in v, (v, record { live = live; are_live = AreLive-state o h c.moment s fold; is = refl }, refl, refl))

    abbrev Told : Sense → Type 0
    Told sense = (r : Outcome) × (change : Option Event) × IsAnswerTo o h c sense r change

    settled_told : (it : Outcome) → Told (Settled it)
    settled_told it = (it, None, (refl, refl))

    within_told : (scopes : List (List ℕ)) (kind : Option (List ℕ)) (sense : Sense) → Told sense → Told (sense_within o.site head scopes kind sense)
    within_told scopes kind sense told = elim (list_any (supports o.site) scopes) as (λ b. Told (cond b sense (Settled (code_outcome head (code_by decider.Scope) (by_step decider.Scope kind))))) [
      | true ↦ told
      | false ↦ settled_told (code_outcome head (code_by decider.Scope) (by_step decider.Scope kind))
    ]

    question_told : (asked : Question) → Told (sense_of_question o.site c.own head asked)
    question_told question.Silent = settled_told _
    question_told question.Unreadable = settled_told _
    question_told (question.Services q) = within_told q.scopes (Some q.kind) (Lists head q) (let r = services_told q in (r.0, None, (r.1, refl)))
    question_told (question.Attributes q) = within_told q.scopes (kind_asked q.target) (Describes head q) (let r = attributes_told q in (r.0, None, (r.1, refl)))
    question_told (question.Types q) = within_told q.scopes None (Names head q) (let r = types_told q in (r.0, None, (r.1, refl)))
    question_told (question.Agents q) = settled_told _

    message_told : (sent : Message) → Told (sense_of_message o.site c.own head sent)
    message_told (message.Registration k x) = changes_told (message.Registration k x)
    message_told (message.Withdrawal k x) = changes_told (message.Withdrawal k x)
    message_told (message.ServiceRequest k q) = question_told (question_of c.own (message.ServiceRequest k q))
    message_told (message.AttributeRequest k q) = question_told (question_of c.own (message.AttributeRequest k q))
    message_told (message.TypeRequest k q) = question_told (question_of c.own (message.TypeRequest k q))
    message_told (message.ServiceReply k x) = settled_told _
    message_told (message.Acknowledgement k code) = settled_told _
    message_told (message.AttributeReply k x) = settled_told _
    message_told (message.DirectoryAdvert k a) = settled_told _
    message_told (message.TypeReply k x) = settled_told _
    message_told (message.ServiceAdvert k a) = settled_told _

    reading_told : (read : Result Message WireFault) → Told (sense_of_reading o.site c.own head read)
    reading_told (Ok sent) = message_told sent
    reading_told (Err e) = settled_told _

  under_told : (heading : Option Heading) → heading_of c.bytes ≡ heading → (r : Outcome) × (change : Option Event) × IsAnswerTo o h c (sense_under o.site c.own heading (reading c.bytes)) r change
  under_told None headed = (_, None, (refl, refl))
  under_told (Some head) headed = reading_told head (short_language c.bytes head headed) (reading c.bytes)

  pub something_told : (r : Outcome) × (change : Option Event) × IsAnswer o h c r change
  unfolding IsAnswer
  something_told = under_told (heading_of c.bytes) refl
