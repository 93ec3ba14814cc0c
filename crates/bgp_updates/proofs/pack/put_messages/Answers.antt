use Rattle.std.proofs.Common.{◌≡◌, ◌<◌, ◌-◌, length, refl, ◌∙◌, ap, arith}
use Rattle.std.proofs.lemmas.Grind.{common_steps}
use Rattle.bgp_updates.specs.Message.{fitting, part_bytes, room_of}
use Rattle.bgp_updates.proofs.Packing.{fitting-octets, fitting-some, IsPacked-next, IsPacked-end}
use Rattle.bgp_updates.proofs.pack.put_messages.Goals as goal

pub part_octets-requires : goal.part_octets-requires
part_octets-requires c =
    let rest = c.loop-rest.rest.now in
    let count : c.count_fitting-count.result ≡ fitting (room_of c.args.part.now) rest =
    c.count_fitting-count.ensures.value ∙ ap (λ n. fitting (4096 - n) rest) c.part_size-room.ensures in
    let bound = rw (← count) at (fitting-octets (room_of c.args.part.now) rest) in
    rw (c.as_slice.ensures.value, c.in_ok-bytes.ensures, c.split_at.ensures.front) (omega (arith, bound, c.requires.room))

pub loop-rest-smaller : goal.loop-rest-smaller
loop-rest-smaller c =
    let rest = c.loop-rest.rest.now in
    let count : c.count_fitting-count.result ≡ fitting (room_of c.args.part.now) rest =
    c.count_fitting-count.ensures.value ∙ ap (λ n. fitting (4096 - n) rest) c.part_size-room.ensures in
    let some : 0 < length rest = grind (arith, common_steps) in
    let more = fitting-some (room_of c.args.part.now) rest (omega (arith, c.requires.room)) some c.loop-rest.invariant.short in
    omega (arith, more, c.split_at.ensures.back_len, count)

pub loop-rest-preserved : goal.loop-rest-preserved
loop-rest-preserved c =
    let rest = c.loop-rest.rest.now in
    let count : c.count_fitting-count.result ≡ fitting (room_of c.args.part.now) rest =
    c.count_fitting-count.ensures.value ∙ ap (λ n. fitting (4096 - n) rest) c.part_size-room.ensures in
    let some : 0 < length rest = grind (arith, common_steps) in
    rw (c.in_ok-push.ensures.ok, c.split_at.ensures.back) (
    IsPacked-next c.args.part.now c.args.messages.now c.loop-rest.messages rest c.args.prefixes.now c.from_vec.result c.count_fitting-count.result
    c.loop-rest.invariant c.requires.room some count
    (c.from_vec.ensures ∙ c.in_ok-part_octets.ensures
    ∙ ap (part_bytes c.args.part.now) (c.as_slice.ensures.value ∙ c.in_ok-bytes.ensures ∙ rw c.split_at.ensures.front refl))
    )

pub returns : goal.returns
returns c =
    let none : length c.loop-rest.rest.now ≡ 0 = grind (arith, common_steps) in
    IsPacked-end c.args.part.now c.args.messages.now c.loop-rest.messages c.loop-rest.rest.now c.args.prefixes.now c.loop-rest.invariant none
