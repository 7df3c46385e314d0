-- What no rule may show is not seen.
use Rattle.std.proofs.Common.{◌≡◌, ◌<◌, ℕ, Bool, true, false, cond, List, [], ◌∷◌, Some, filter, length, get_or, refl, sym, ap, ◌∙◌}
use Rattle.std.specs.Prelude.{◌&&◌, Contains}
use Rattle.std.specs.List.{list_any}
use Rattle.std.proofs.lemmas.List.{get_or_default}
use Rattle.std.proofs.lemmas.List.Folds.{list_any_none}
use Rattle.access_rules.proofs.ShownKinds.{none-shown}
use Rattle.access_rules.specs.Deciding.{deed, may_show, part_in, rules_in}
use Rattle.access_rules.specs.declared.rule.Action.TheVariants.{See}
use Rattle.registry_core.specs.Entries.{has_scope, is_kind, outlives, Entries, IsListing}
use Rattle.registry_core.specs.declared.entry.Entry.{Entry}
use Rattle.directory_questions.specs.Sights.{is_open_in}
use Rattle.directory_questions.specs.Items.{is_wanted}
use Rattle.directory_state.specs.Searches.{is_found, is_seen, seen_of}
use Rattle.directory_state.specs.declared.asked.Viewer.{Viewer}
use Rattle.directory_state.specs.declared.search.Search.{Search}
use Rattle.directory_state.proofs.OpenEntries.{listed-held}
use Rattle.directory_state.proofs.SeenUrls.{here, there}

nothing-and : (b : Bool) → (b && false) ≡ false
nothing-and true = refl
nothing-and false = refl

-- where no rule may show something in any scope that is asked for
pub none-seen : (v : Viewer) (kind : List ℕ) → ((k : ℕ) → k < length v.asked → list_any (may_show v.asker kind (get_or v.asked k [])) (rules_in (part_in v.about)) ≡ false)
    → (e : Entry) → is_kind (Some kind) e ≡ true → is_seen v e ≡ false
none-seen v kind none e covered =
    let d = deed v.asker See e.kind e.owner in
    let shut = λ (i : ℕ) (s : List ℕ) (lt : i < length v.asked).
    ap (λ b. has_scope (get_or v.asked i s) e && b)
    (sym (v.alike.opens d (get_or v.asked i s) refl refl)
    ∙ none-shown (part_in v.about) d kind (get_or v.asked i s) refl covered (ap (λ k. list_any (may_show v.asker kind k) (rules_in (part_in v.about))) (get_or_default v.asked i s [] lt) ∙ none i lt))
    ∙ nothing-and (has_scope (get_or v.asked i s) e) in
    ap (λ b. outlives v.moment e && b) (list_any_none (is_open_in v.rules.now v.asker e) v.asked shut) ∙ nothing-and (outlives v.moment e)

-- of entries none of which is seen
kept-none : (p : Entry → Bool) (es : List Entry) → ((e : Entry) → Contains es e → p e ≡ false) → filter p es ≡ []
kept-none p [] h = refl
kept-none p (e ∷ es) h = ap (λ b. cond b (e ∷ filter p es) (filter p es)) (h e (here e es)) ∙ kept-none p es (λ f has. h f (there e f es has))

pub none-listed : (v : Viewer) (kind : List ℕ) (m : Entries) (es : List Entry) → IsListing (is_kind (Some kind)) m es → ((e : Entry) → is_kind (Some kind) e ≡ true → is_seen v e ≡ false)
    → filter (is_seen v) es ≡ []
none-listed v kind m es listing none = kept-none (is_seen v) es (λ e has. none e ((listed-held (is_kind (Some kind)) m es listing e has).1))

none-both : (p q : Entry → Bool) (es : List Entry) → filter p es ≡ [] → filter (λ e. p e && q e) es ≡ []
none-both p q [] h = refl
none-both p q (e ∷ es) h =
    elim (p e) as (λ b. cond b (e ∷ filter p es) (filter p es) ≡ [] → cond (b && q e) (e ∷ filter (λ e. p e && q e) es) (filter (λ e. p e && q e) es) ≡ []) [
      | true ↦ λ k. absurd cc
      | false ↦ λ k. none-both p q es k
    ] h

-- what is not seen is not found
pub none-found : (s : Search) (es : List Entry) → filter (is_seen s.viewer) es ≡ [] → filter (is_found s) es ≡ []
none-found s es h = none-both (is_seen s.viewer) (λ e. is_wanted s.query.now (seen_of s.viewer e)) es h
