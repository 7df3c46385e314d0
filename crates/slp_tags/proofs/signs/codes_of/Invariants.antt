use Rattle.std.proofs.Common.{◌≡◌, map, take}
use Rattle.std.specs.Prelude.{◌≢◌}
use Rattle.std.specs.List.{AllByRecursion}
use Rattle.slp_tags.specs.SignCodes.{end_code, sign_in}
use Rattle.slp_tags.proofs.signs.codes_of.Given as goal

-- the codes so far, none of which is the end
abbrev pub invariant-loop-sign : goal.invariant-loop-sign
invariant-loop-sign l = (map sign_in l.codes.items ≡ take l.sign-index l.signs) × AllByRecursion (λ n. n ≢ end_code) l.codes.items
