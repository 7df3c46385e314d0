use Rattle.std.proofs.Common.{◌≡◌, ◌+◌, ◌<◌, suc, true, drop, length, length-drop, refl, sym, subst, ap, ◌∙◌, arith}
use Rattle.std.specs.List.{list_any}
use Rattle.slp_tags.specs.Tags.{ends_of, is_match}
use Rattle.slp_tags.specs.Searches.{finds, star_at, ArePieceFalls}
use Rattle.slp_tags.specs.SignCodes.{signs_in, AreCodes}
use Rattle.slp_tags.proofs.Falls.{later-falls}
use Rattle.slp_tags.proofs.Searches.{passed-star}
use Rattle.slp_tags.proofs.SignCodes.{drop-codes, fewer-signs, star-inside}
use Rattle.slp_tags.proofs.signs.Search.pass_star.Goals as goal

pub after_star-requires-clause-within : goal.after_star-requires-clause-within
after_star-requires-clause-within c =
    let s = c.self.inside in
    let within = star-inside s.came s.codes.now c.self.invariant.0 (subst (λ v. star_at v.came v.signs ≡ true) (sym c.self.view_is) c.requires) in
    omega (arith, within)

pub invariant_of-self : goal.invariant_of-self
invariant_of-self c =
    let s = c.self.inside in
    let p = signs_in s.codes.now in
    let star = subst (λ v. star_at v.came v.signs ≡ true) (sym c.self.view_is) c.requires in
    let within = star-inside s.came s.codes.now c.self.invariant.0 star in
    let codes = c.after_star.ensures.codes in
    let falls = c.after_star.ensures.falls in
    let next : suc s.came ≡ s.came + 1 = omega arith in
    let cut = drop-codes (s.came + 1) s.codes.now within c.self.invariant.0 in
    let later = subst (λ j. ArePieceFalls (drop j p) (drop j s.falls.now)) next (later-falls p s.falls.now s.came star c.self.invariant.2) in (
      subst AreCodes (sym codes) cut.1,
      ap length falls ∙ (let a = length-drop (s.came + 1) s.falls.now in let b = length-drop (s.came + 1) s.codes.now in let d = ap length codes in omega (arith, a, b, d, c.self.invariant.1)),
      subst (λ q. ArePieceFalls (signs_in q) c.after_star.result.1.now) (sym codes)
          (subst (λ q. ArePieceFalls q c.after_star.result.1.now) (sym cut.0) (subst (ArePieceFalls (drop (s.came + 1) p)) (sym falls) later)),
      refl,
    )

pub returns-clause-same : goal.returns-clause-same
returns-clause-same c =
    let s = c.self.inside in
    let star = subst (λ v. star_at v.came v.signs ≡ true) (sym c.self.view_is) c.requires in
    let within = star-inside s.came s.codes.now c.self.invariant.0 star in
    let cut = drop-codes (s.came + 1) s.codes.now within c.self.invariant.0 in
    λ text. ap (λ q. list_any (is_match (signs_in q)) (ends_of text)) c.after_star.ensures.codes ∙ ap (λ q. list_any (is_match q) (ends_of text)) cut.0
    ∙ passed-star (signs_in s.codes.now) s.came s.floats text c.self.invariant.3 star ∙ ap (λ v. finds v text) c.self.view_is

pub returns-clause-less : goal.returns-clause-less
returns-clause-less c =
    let s = c.self.inside in
    let star = subst (λ v. star_at v.came v.signs ≡ true) (sym c.self.view_is) c.requires in
    let within = star-inside s.came s.codes.now c.self.invariant.0 star in
    subst (λ n. length (signs_in c.after_star.result.0.now) < n) (ap (λ v. length v.signs) c.self.view_is) (fewer-signs s.came s.codes.now c.after_star.result.0.now c.after_star.ensures.codes within c.self.invariant.0)
