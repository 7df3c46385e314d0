-- Steps of a reader: what follows from one that failed, and from one that did not.
use Rattle.std.proofs.Common.{◌≡◌, Result, Ok, Err, refl, ap}
use Rattle.slp_fields.specs.Steps.{◌>>=◌, Fails}
use Rattle.slp_fields.specs.declared.fault.WireFault.{WireFault}
use Rattle.slp_fields.specs.declared.fault.WireFault.TheVariants.{NoHeader, Version, Parse, Auth, Unknown, NoMemory, TooLong}
use Rattle.slp_fields.specs.declared.fault.WireFault.TheVariants as fault

pub fails_on : {Y Z : Type 0} (e : WireFault) (part : Result Y WireFault) (whole : Result Z WireFault) → (part ≡ Err e → whole ≡ Err e) → Fails e part → Fails e whole
fails_on NoMemory part whole on f = tt
fails_on NoHeader part whole on f = on f
fails_on Version part whole on f = on f
fails_on Parse part whole on f = on f
fails_on fault.Option part whole on f = on f
fails_on Auth part whole on f = on f
fails_on Unknown part whole on f = on f
fails_on TooLong part whole on f = on f

-- the value of a step that did not fail
pub bind_ok : {A B : Type 0} (r : Result A WireFault) (f : A → Result B WireFault) (y : B) → (r >>= f) ≡ Ok y → (x : A) × (r ≡ Ok x) × (f x ≡ Ok y)
bind_ok (Ok x) f y e = (x, refl, e)
bind_ok (Err d) f y e = absurd cc

-- a step that did not fail goes on
pub bind_is : {A B : Type 0} (r : Result A WireFault) (f : A → Result B WireFault) (x : A) → r ≡ Ok x → (r >>= f) ≡ f x
bind_is {A = A} r f x e = ap (λ (q : Result A WireFault). q >>= f) e

-- and one that failed does not
pub bind_err : {A B : Type 0} (r : Result A WireFault) (f : A → Result B WireFault) (e : WireFault) → r ≡ Err e → (r >>= f) ≡ Err e
bind_err {A = A} r f e h = ap (λ (q : Result A WireFault). q >>= f) h

abbrev done : {A : Type 0} → A → Result A WireFault
done x = Ok x

pub ok_is : {A : Type 0} (x y : A) → done x ≡ done y → x ≡ y
ok_is x y e = cc
