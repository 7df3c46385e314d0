use Rattle.std.proofs.Common.{◌≡◌, length, take, ap, ap₂, ◌∙◌, arith, List, ℕ}
use Rattle.std.proofs.lemmas.List.{length-take}
use Rattle.service_url.specs.Types.{root_of}
use Rattle.service_url.proofs.Roots.{root_front, root_within}
use Rattle.service_url.proofs.types.ServiceType.root.Goals as goal

text : (c : goal.After-as_bytes) → c.as_bytes.result.now ≡ c.args.self.now
text c = c.as_bytes.ensures.value ∙ c.self.view_is

root : (c : goal.After-as_bytes) → c.self.inside.root ≡ length (root_of c.args.self.now)
root c = c.self.invariant.2 ∙ ap (λ (k : List ℕ). length (root_of k)) c.self.view_is

pub slice_bounds-result-end : goal.slice_bounds-result-end
slice_bounds-result-end c = omega (arith, length-take c.self.inside.root c.as_bytes.result.now, ap length (text c), root c, root_within c.args.self.now)

pub returns : goal.returns
returns c = ap₂ take (root c) (text c) ∙ root_front c.args.self.now
