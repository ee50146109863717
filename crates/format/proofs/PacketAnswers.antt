-- What the answer for a packet's size tells.
use mathlib.Core.Path.{◌≡◌}
use mathlib.Core.Bool.{true, false}
use Prim.Native.Nat.{ℕ}
use Rattle.byte_order.proofs.Choice.{refused, given}
use Rattle.format.specs.Packet.{bytes_per_packet_of, is_packet_too_big}
use Rattle.format.specs.FormatAnswers.{packet_size}
use Rattle.std.proofs.Common.{Some, None}

pub packet-refused : (bits channels : ℕ) → packet_size bits channels ≡ None → is_packet_too_big bits channels ≡ true
packet-refused bits channels e = refused None Some (λ v e. cc) (is_packet_too_big bits channels) (bytes_per_packet_of bits channels) e

pub packet-given : (bits channels n : ℕ) → packet_size bits channels ≡ Some n → (is_packet_too_big bits channels ≡ false) × (bytes_per_packet_of bits channels ≡ n)
packet-given bits channels n e = given None Some (λ v e. cc) (λ v w e. cc) (is_packet_too_big bits channels) (bytes_per_packet_of bits channels) n e
