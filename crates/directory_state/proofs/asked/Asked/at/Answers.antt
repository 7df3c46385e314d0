use Rattle.std.proofs.Common.{◌≡◌, ◌<◌, ℕ, List, [], Option, Some, None, length, refl, get_or, sym, ap, subst, ◌∙◌, arith}
use Rattle.std.specs.Prelude.{slice_get, IsSome}
use Rattle.std.specs.Borrow.{Bor}
use Rattle.std.specs.Option.{option_copied}
use Rattle.std.proofs.lemmas.Option.{slice_get-get_or}
use Rattle.directory_state.specs.AskedScopes.{scopes_at}
use Rattle.directory_state.proofs.AskedPlaces.{place-within, scope-there, scope-within}
use Rattle.directory_state.proofs.asked.Asked.at.Goals as goal

pub bounds-self-inside-place : goal.bounds-self-inside-place
bounds-self-inside-place c =
    let i = c.self.inside in
    let here : c.args.place < length (scopes_at i.scopes.now i.count i.places) = subst (λ xs. c.args.place < length xs) (sym c.self.view_is) c.requires in
    let within = place-within i.scopes.now i.count i.places c.args.place here in
    omega (arith, within, c.self.told)

some_copied : {T : Type 0} (o : Option (Bor T)) (x : T) → option_copied o ≡ Some x → IsSome o
some_copied None x h = cc
some_copied (Some b) x h = refl

pub unwrap-requires : goal.unwrap-requires
unwrap-requires c =
    let i = c.self.inside in
    let here : c.args.place < length (scopes_at i.scopes.now i.count i.places) = subst (λ xs. c.args.place < length xs) (sym c.self.view_is) c.requires in
    let there : c.from.result < length i.scopes.now = subst (λ n. n < length i.scopes.now) (sym c.from.ensures) (scope-within i.scopes.now i.count i.places c.args.place here c.self.invariant) in
    some_copied c.at.result (get_or i.scopes.now c.from.result []) (c.at.ensures ∙ slice_get-get_or i.scopes.now c.from.result [] there)

pub returns : goal.returns
returns c =
    let i = c.self.inside in
    let here : c.args.place < length (scopes_at i.scopes.now i.count i.places) = subst (λ xs. c.args.place < length xs) (sym c.self.view_is) c.requires in
    let found : slice_get i.scopes.now (get_or i.places c.args.place 0) ≡ Some c.unwrap.result.now =
    ap (slice_get i.scopes.now) (sym (c.from.ensures)) ∙ sym c.at.ensures ∙ ap option_copied c.unwrap.ensures in
    subst (λ (xs : List (List ℕ)). slice_get xs c.args.place ≡ Some c.unwrap.result.now) c.self.view_is (scope-there i.scopes.now i.count i.places c.args.place here c.unwrap.result.now found)
