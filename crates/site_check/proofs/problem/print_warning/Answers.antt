use Rattle.std.proofs.Common.{append_assoc, subst}
use Rattle.std.specs.Prelude.{OnOk}
use Rattle.std.specs.Io.KnownBytes.{Appends}
use Rattle.std.proofs.KnownBytes.{Appends-trans}
use Rattle.site_check.proofs.Written.{written_after}
use Rattle.site_check.proofs.problem.print_warning.Goals as goal

pub returns-in_ok-print_text-in-Hidden : goal.returns-in_ok-print_text-in-Hidden
returns-in_ok-print_text-in-Hidden g c =
    rw c.in-Hidden.is (subst (λ bs. OnOk c.write-in-Hidden-2.result (Appends (g.W.Write.contents c.args.writer.now) (g.W.Write.contents c.write-in-Hidden-2.new.self) bs)) (simp append_assoc)
    (written_after c.write-in-Hidden-2.result _ _ _ _ _ (Appends-trans _ _ _ _ _ c.in_ok-write-in-Hidden.ensures.bytes c.in_ok-print_text-in-Hidden.ensures) c.write-in-Hidden-2.ensures.bytes))

pub returns-in-NoScope : goal.returns-in-NoScope
returns-in-NoScope g c = rw c.in-NoScope.is c.print_named.ensures

pub returns-in-NoType : goal.returns-in-NoType
returns-in-NoType g c = rw c.in-NoType.is c.print_named-in-NoType.ensures

pub returns-in_ok-print_named-in-NoService : goal.returns-in_ok-print_named-in-NoService
returns-in_ok-print_named-in-NoService g c =
    rw c.in-NoService.is (subst (λ bs. OnOk c.write-in-NoService.result (Appends (g.W.Write.contents c.args.writer.now) (g.W.Write.contents c.write-in-NoService.new.self) bs)) (simp append_assoc)
    (written_after c.write-in-NoService.result _ _ _ _ _ c.in_ok-print_named-in-NoService.ensures c.write-in-NoService.ensures.bytes))

pub returns-in-NoSight : goal.returns-in-NoSight
returns-in-NoSight g c = rw c.in-NoSight.is c.write-in-NoSight.ensures.bytes

pub returns-in-FewDescriptors : goal.returns-in-FewDescriptors
returns-in-FewDescriptors g c = rw c.in-FewDescriptors.is (simp append_assoc c.write-in-FewDescriptors.ensures.bytes)

pub returns-in-MoreBits : goal.returns-in-MoreBits
returns-in-MoreBits g c = rw c.in-MoreBits.is c.write-in-MoreBits.ensures.bytes

pub returns-in-AnyType : goal.returns-in-AnyType
returns-in-AnyType g c = rw c.in-AnyType.is c.print_named-in-AnyType.ensures

pub returns-in-RefusedDefault : goal.returns-in-RefusedDefault
returns-in-RefusedDefault g c = rw c.in-RefusedDefault.is c.print_named-in-RefusedDefault.ensures
