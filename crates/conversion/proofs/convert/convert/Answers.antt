use Rattle.std.proofs.Common.{◌≡◌, ℕ, ◌+◌, ◌-◌, length, take, drop, refl, sym, ap, ◌∙◌, arith, Ok}
use Rattle.std.proofs.Math.ListN.{length-take, length-drop}
use borrow.Author.Tests.{leb-true}
use Rattle.answers.specs.Numbers.{done}
use Rattle.byte_order.specs.Splice.{splice}
use Rattle.std.proofs.lemmas.Result.{err_from_is_err_and}
use Rattle.wave.specs.Head.{pad_of, kind_of}
use Rattle.wave.specs.Making.{head_answer}
use Rattle.wave.proofs.Exactly.{allows}
use Rattle.wave.proofs.Front.{start_small}
use Rattle.conversion.specs.Said.{chan_of, labels_of}
use Rattle.conversion.proofs.Headed.{headed, thirds}
use Rattle.conversion.proofs.Told.{refused_told, told-refused, told-done, length-is, room-refused, room-there, file-is}
use Rattle.conversion.proofs.convert.convert.Goals as goal

pub returns-in_err-head : goal.returns-in_err-head
returns-in_err-head c =
    let a = c.args in
    let p = err_from_is_err_and c.from_residual.result c.from_residual.ensures.1 in
    rw (p.1, p.2) (refused_told a.caf.now a.info a.out.now c.in_err-head.field-0.0 c.in_err-head.ensures)

pub returns-then-not-has_room : goal.returns-then-not-has_room
returns-then-not-has_room c =
    let a = c.args in
    let h = head_answer (Ok c.in_ok-head.head) in
    let d = headed a.info (chan_of a.caf.now) h c.in_ok-head.ensures in
    let full = room-refused a.caf.now a.info a.out.now h d refl (sym c.has_room.ensures ∙ c.if-not-has_room.true) in
    told-refused a.caf.now a.info a.out.now 14 full (λ e. let no : ⊥ = omega arith in no)

pub deliver-requires : goal.deliver-requires
deliver-requires c =
    let a = c.args in
    let v = a.info in
    let h = head_answer (Ok c.in_ok-head.head) in
    let d = headed v (chan_of a.caf.now) h c.in_ok-head.ensures in
    let room = leb-true (h.size + v.payload + pad_of v.payload) (length a.out.now) (sym c.has_room.ensures ∙ c.if-not-has_room.false) in
    let l : length (take (v.data_start + v.payload - v.data_start) (drop v.data_start a.caf.now)) ≡ v.payload = simp (length-take, length-drop) (omega arith) in
    let frames = (allows v.format (labels_of (chan_of a.caf.now)) v.payload (d.made refl)).frames in
    rw l (omega (arith, d.size refl, start_small (kind_of v.payload)), thirds v.format.channels_per_frame v.payload frames, room)

pub returns : goal.returns
returns c =
    let a = c.args in
    let v = a.info in
    let s = a.caf.now in
    let h = head_answer (Ok c.in_ok-head.head) in
    let d = headed v (chan_of s) h c.in_ok-head.ensures in
    let there = room-there s v a.out.now h d refl (sym c.has_room.ensures ∙ c.if-not-has_room.false) in
    let x = told-done s v a.out.now there in
    let long = length-is s v a.out.now h d refl in
    let part = take (v.data_start + v.payload - v.data_start) (drop v.data_start s) in
    let n : v.data_start + v.payload - v.data_start ≡ v.payload = omega arith in
    let l : length part ≡ v.payload = simp (length-take, length-drop) (omega arith) in
    let file = file-is s v a.out.now h d refl c.endianness_for-endianness.result part c.endianness_for-endianness.ensures (ap (λ (k : ℕ). take k (drop v.data_start s)) n) l in
    ((λ i. record { number = done; length = long i }) ∙ x.0, c.deliver.ensures ∙ ap (splice a.out.now 0) file ∙ x.1)
