use Rattle.std.proofs.Common.{sym, ◌∙◌}
use Rattle.addresses.proofs.Addresses.{IsCut, address-one, address-two, address-three, address-four}
use Rattle.addresses.proofs.address.address.Goals as goal

pub returns-in_err-a : goal.returns-in_err-a
returns-in_err-a c = c.from_residual.ensures ∙ sym (address-one _ c.in_err-a.ensures)

pub returns-in_err-b : goal.returns-in_err-b
returns-in_err-b c =
    let f : IsCut c.args.text.now c.in_ok-a.a.now c.in_ok-a.rest.now = record { all = c.in_ok-a.ensures.0; lacks = c.in_ok-a.ensures.1 } in
    c.from_residual-in_err-b.ensures ∙ sym (address-two _ _ _ f c.in_err-b.ensures)

pub returns-in_err-c : goal.returns-in_err-c
returns-in_err-c c =
    let f : IsCut c.args.text.now c.in_ok-a.a.now c.in_ok-a.rest.now = record { all = c.in_ok-a.ensures.0; lacks = c.in_ok-a.ensures.1 } in
    let g : IsCut c.in_ok-a.rest.now c.in_ok-b.b.now c.in_ok-b.rest.now = record { all = c.in_ok-b.ensures.0; lacks = c.in_ok-b.ensures.1 } in
    c.from_residual-in_err-c.ensures ∙ sym (address-three _ _ _ _ _ f g c.in_err-c.ensures)

pub returns : goal.returns
returns c =
    let f : IsCut c.args.text.now c.in_ok-a.a.now c.in_ok-a.rest.now = record { all = c.in_ok-a.ensures.0; lacks = c.in_ok-a.ensures.1 } in
    let g : IsCut c.in_ok-a.rest.now c.in_ok-b.b.now c.in_ok-b.rest.now = record { all = c.in_ok-b.ensures.0; lacks = c.in_ok-b.ensures.1 } in
    let h : IsCut c.in_ok-b.rest.now c.in_ok-c.c.now c.in_ok-c.d.now = record { all = c.in_ok-c.ensures.0; lacks = c.in_ok-c.ensures.1 } in
    c.joined.ensures ∙ sym (address-four _ _ _ _ _ _ _ f g h)
