use Rattle.std.proofs.Common.{◌≡◌, ℕ, List, Option, Result, Ok, Err, Some, None, refl, sym, ap, ap₂, subst, ◌∙◌, get_or, length}
use Rattle.std.proofs.lemmas.List.Quantifiers.{position-Some}
use Rattle.std.proofs.lemmas.Option.{slice_get_read}
use Rattle.std.specs.Prelude.{remove, slice_get, MatchOption, OnErr}
use Rattle.std.specs.Option.{option_map}
use Rattle.std.proofs.lemmas.Result.{err_from_is_err_and, IfOk-from_err}
use Rattle.slp_text.specs.Keys.{key_of}
use Rattle.slp_wire.specs.Spelling.{plain_bytes}
use Rattle.agent_clients.specs.Keeping.{Forgets, Kept, Keeping, is_named, next_xid, place_of, withdrawal_of}
use Rattle.agent_clients.proofs.service_agent.ServiceAgent.forget.Goals as goal

on_err : {T E X : Type 0} (r : Result T E) → X → OnErr r X
on_err (Ok x) h = tt
on_err (Err y) h = h

module _ (a : Keeping) (url language : List ℕ) where
  abbrev told_of : ℕ → Option (List ℕ)
  told_of n = option_map (λ (k : Kept). plain_bytes (withdrawal_of (next_xid a.xid) k)) (slice_get a.kept n)

  abbrev kept_of : ℕ → Keeping
  kept_of n = record { kept = remove a.kept n; xid = next_xid a.xid }

  forgets_none : place_of url (key_of language) a.kept ≡ None → Forgets a url language None a
  forgets_none is = subst (λ o. MatchOption o (◌≡◌ {A = Option (List ℕ)} None None × (a ≡ a)) (λ n. (None ≡ told_of n) × (a ≡ kept_of n))) (sym is) (refl, refl)

  forgets_some : (n : ℕ) (told : Option (List ℕ)) (b : Keeping) → place_of url (key_of language) a.kept ≡ Some n → told ≡ told_of n → b ≡ kept_of n → Forgets a url language told b
  forgets_some n told b is tells keeps = subst (λ o. MatchOption o ((told ≡ None) × (b ≡ a)) (λ m. (told ≡ told_of m) × (b ≡ kept_of m))) (sym is) (tells, keeps)

pub returns-in_err-key-clause-ok : goal.returns-in_err-key-clause-ok
returns-in_err-key-clause-ok c = IfOk-from_err c.from_residual.result _ c.from_residual.ensures.0

pub returns-in_err-key-clause-err : goal.returns-in_err-key-clause-err
returns-in_err-key-clause-err c = on_err c.from_residual.result refl

pub returns-in_err-key-clause-faults : goal.returns-in_err-key-clause-faults
returns-in_err-key-clause-faults c =
    let p = err_from_is_err_and c.from_residual.result c.from_residual.ensures.1 in
    rw p.1 p.2

pub returns-in_err-bytes-clause-ok : goal.returns-in_err-bytes-clause-ok
returns-in_err-bytes-clause-ok c = IfOk-from_err c.from_residual-in_err-bytes.result _ c.from_residual-in_err-bytes.ensures.0

pub returns-in_err-bytes-clause-err : goal.returns-in_err-bytes-clause-err
returns-in_err-bytes-clause-err c = on_err c.from_residual-in_err-bytes.result refl

pub returns-in_err-bytes-clause-faults : goal.returns-in_err-bytes-clause-faults
returns-in_err-bytes-clause-faults c =
    let p = err_from_is_err_and c.from_residual-in_err-bytes.result c.from_residual-in_err-bytes.ensures.1 in
    rw p.1 p.2

pub returns-in_default-clause-ok : goal.returns-in_default-clause-ok
returns-in_default-clause-ok c =
    let url = c.args.url.now in
    let place : place_of url (key_of c.args.language.now) c.args.self.now.kept ≡ None =
    ap₂ (λ k ks. place_of url k ks) (sym c.in_ok-key.ensures) (ap (λ (a : Keeping). a.kept) (sym c.self.view_is) ∙ sym c.as_slice.ensures.value) ∙ sym c.find.ensures ∙ c.in_default.is in
    forgets_none c.args.self.now url c.args.language.now place

pub returns-clause-ok : goal.returns-clause-ok
returns-clause-ok c =
    let a = c.args.self.now in
    let url = c.args.url.now in
    let n = c.in-Some.place in
    let place : place_of url (key_of c.args.language.now) a.kept ≡ Some n =
    ap₂ (λ k ks. place_of url k ks) (sym c.in_ok-key.ensures) (ap (λ (x : Keeping). x.kept) (sym c.self.view_is) ∙ sym c.as_slice.ensures.value) ∙ sym c.find.ensures ∙ c.in-Some.is in
    let xid : c.next_after-xid.result ≡ next_xid a.xid = c.next_after-xid.ensures ∙ ap (λ (x : Keeping). next_xid x.xid) c.self.view_is in
    let one = c.index.result.now in
    let within = (position-Some (is_named url (key_of c.args.language.now)) a.kept n one place).0 in
    let read : slice_get a.kept n ≡ Some one = slice_get_read a.kept (length a.kept) n one refl within (c.index.ensures ∙ ap (λ (x : Keeping). get_or x.kept n one) c.self.view_is) in
    forgets_some a url c.args.language.now n _ _ place
    (ap Some c.in_ok-bytes.ensures ∙ ap (λ m. Some (plain_bytes (withdrawal_of m one))) xid ∙ ap (option_map (λ (k : Kept). plain_bytes (withdrawal_of (next_xid a.xid) k))) (sym read))
    (ap₂ {C = Keeping} (λ ks m. record { kept = ks; xid = m }) (c.remove.ensures.items ∙ ap (λ (x : Keeping). remove x.kept n) c.self.view_is) xid)
