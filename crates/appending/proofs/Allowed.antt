-- What 0 from the append tells.
use mathlib.Core.Path.{◌≡◌}
use mathlib.Core.Bool.{Bool, true, false, cond, not}
use Prim.Native.Nat.{ℕ, ◌+◌, ◌≤◌}
use lib.Dec.{ltb, eqb, lit<}
use borrow.Author.Tests.{ltb-false, eqb-false, not-false}
use Rattle.answers.specs.Numbers.{done, bad_writer, no_header, no_room_left, tail_after_data, not_closed, no_group, wrong_width, file_max}
use Rattle.refusals.specs.Numbers.{exceeds}
use Rattle.refusals.proofs.Tests.{neither, pass}
use Rattle.appending.specs.Audio.{is_whole, size_of}
use Rattle.appending.specs.Append.{length_as, number_as}
use Rattle.appending.specs.declared.Audio.{Audio}

pub record Allowed (a : Audio) (group : ℕ) (s h f o : Bool) (room : ℕ) : Type 0 where
  pub is-sound : s ≡ true
  pub header : h ≡ true
  pub closed : f ≡ true
  pub none : o ≡ false
  pub chosen : group ≡ 0 → ⊥
  pub whole : is_whole a.format (size_of a) ≡ true
  pub in-room : a.end + length_as a group ≤ room
  pub in-file : a.end + length_as a group ≤ file_max

pub allowed : (a : Audio) (group : ℕ) (s h f o : Bool) (room : ℕ) → number_as a group s h f o room ≡ done → Allowed a group s h f o room
allowed a group s h f o room e =
    let end = a.end + length_as a group in
    let c7 : ℕ = cond (exceeds end room) no_room_left done in
    let c6 : ℕ = cond (not (is_whole a.format (size_of a))) wrong_width c7 in
    let c5 : ℕ = cond (eqb group 0) no_group c6 in
    let c4 : ℕ = cond o tail_after_data c5 in
    let c3 : ℕ = cond (not f) not_closed c4 in
    let c2 : ℕ = cond (not h) no_header c3 in
    let p1 = pass (not s) bad_writer c2 (lit< tt) e in
    let p2 = pass (not h) no_header c3 (lit< tt) p1.1 in
    let p3 = pass (not f) not_closed c4 (lit< tt) p2.1 in
    let p4 = pass o tail_after_data c5 (lit< tt) p3.1 in
    let p5 = pass (eqb group 0) no_group c6 (lit< tt) p4.1 in
    let p6 = pass (not (is_whole a.format (size_of a))) wrong_width c7 (lit< tt) p5.1 in
    let p7 = pass (exceeds end room) no_room_left done (lit< tt) p6.1 in
    let q = neither (ltb room end) (ltb file_max end) p7.0 in
    record {
      is-sound = not-false s p1.0;
      header = not-false h p2.0;
      closed = not-false f p3.0;
      none = p4.0;
      chosen = eqb-false group 0 p5.0;
      whole = not-false (is_whole a.format (size_of a)) p6.0;
      in-room = ltb-false room end q.0;
      in-file = ltb-false file_max end q.1;
    }
