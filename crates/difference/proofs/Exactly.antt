-- Two files are answered by the rows, and by no others.
use mathlib.Core.Path.{◌≡◌, refl, subst}
use mathlib.Core.Bool.{not}
use mathlib.Core.List.{List}
use Prim.Native.Nat.{ℕ}
use lib.Dec.{ltb, eqb}
use borrow.Author.Tests.{ltb-true, ltb-false, lt-ltb, le-ltb, eqb-true, eqb-false, eq-eqb, ne_eqb, not-true, not-false}
use Rattle.answers.specs.Numbers.{done}
use Rattle.format.specs.Wide.{is_wide}
use Rattle.reading.specs.Strict.{strict}
use Rattle.reading.specs.declared.StrictInfo.{StrictInfo}
use Rattle.reading.specs.Shapes.{StrictAnswer, Accepted, Rejected}
use Rattle.reading.proofs.Choice.{either}
use Rattle.difference.specs.Sides.{channels_of}
use Rattle.difference.specs.Compared.{number_in, side_of, by_sides, with_second, with_first, compared}
use Rattle.difference.specs.Table.{Read, Wide, ComparedGives}
use Rattle.difference.specs.Claims.{ComparedExactly}
use Rattle.difference.specs.Answer.{Compared}

module _ (s t : List ℕ) (room : ℕ) where
  module _ (v w : StrictInfo) (a : Read s v) (b : Read t w) where
    abbrev m : ℕ
    m = channels_of (side_of s v)

    abbrev n : ℕ
    n = channels_of (side_of t w)

    sides-give : ComparedGives s t room (by_sides (side_of s v) (side_of t w) room)
    sides-give =
        either (ComparedGives s t room) (not (is_wide v.format)) (λ h. ComparedGives.first_width v w a b (not-true (is_wide v.format) h))
        (λ h. let one = not-false (is_wide v.format) h in
        either (ComparedGives s t room) (not (is_wide w.format)) (λ i. ComparedGives.second-width v w a b one (not-true (is_wide w.format) i))
        (λ i. let wide : Wide s t v w = record { first = a; second = b; one = one; two = not-false (is_wide w.format) i } in
        either (ComparedGives s t room) (not (eqb m n)) (λ j. ComparedGives.other-channels v w wide (eqb-false m n (not-true (eqb m n) j)))
        (λ j. let same = eqb-true m n (not-false (eqb m n) j) in
        either (ComparedGives s t room) (ltb room m) (λ k. ComparedGives.no_room v w wide same (ltb-true room m k))
        (λ k. ComparedGives.fits v w wide same (ltb-false room m k)))))

  second-gives : (v : StrictInfo) → Read s v → (b : StrictAnswer) → strict t ≡ b → ComparedGives s t room (with_second (side_of s v) t b room)
  second-gives v a (Rejected number k) q = ComparedGives.second-rejected v a number k q
  second-gives v a (Accepted w k) q =
      either (ComparedGives s t room) (eqb (number_in t w) done)
      (λ h. sides-give v w a (record { chunks = k; accepted = q; layout = eqb-true (number_in t w) done h }))
      (λ h. ComparedGives.second-layout v w a k q (eqb-false (number_in t w) done h))

  first_gives : (a : StrictAnswer) → strict s ≡ a → ComparedGives s t room (with_first s a t room)
  first_gives (Rejected number k) p = ComparedGives.first-rejected number k p
  first_gives (Accepted v k) p =
      either (ComparedGives s t room) (eqb (number_in s v) done)
      (λ h. second-gives v (record { chunks = k; accepted = p; layout = eqb-true (number_in s v) done h }) (strict t) refl)
      (λ h. ComparedGives.first-layout v k p (eqb-false (number_in s v) done h))

  compared-gives : ComparedGives s t room (compared s t room)
  unfolding compared
  compared-gives = first_gives (strict s) refl

  compared-row : (r : Compared) → ComparedGives s t room r → compared s t room ≡ r
  unfolding compared
  compared-row r (ComparedGives.first-rejected number k p) = rw p
  compared-row r (ComparedGives.first-layout v k p h) = rw (p, ne_eqb (number_in s v) done h)
  compared-row r (ComparedGives.second-rejected v a number k q) = rw (a.accepted, eq-eqb (number_in s v) done a.layout, q)
  compared-row r (ComparedGives.second-layout v w a k q h) = rw (a.accepted, eq-eqb (number_in s v) done a.layout, q, ne_eqb (number_in t w) done h)
  compared-row r (ComparedGives.first_width v w a b h) =
      rw (a.accepted, eq-eqb (number_in s v) done a.layout, b.accepted, eq-eqb (number_in t w) done b.layout, h)
  compared-row r (ComparedGives.second-width v w a b h i) =
      rw (a.accepted, eq-eqb (number_in s v) done a.layout, b.accepted, eq-eqb (number_in t w) done b.layout, h, i)
  compared-row r (ComparedGives.other-channels v w f h) =
      rw (
        f.first.accepted,
        eq-eqb (number_in s v) done f.first.layout,
        f.second.accepted,
        eq-eqb (number_in t w) done f.second.layout,
        f.one,
        f.two,
        ne_eqb (channels_of (side_of s v)) (channels_of (side_of t w)) h,
      )
  compared-row r (ComparedGives.no_room v w f e h) =
      rw (
        f.first.accepted,
        eq-eqb (number_in s v) done f.first.layout,
        f.second.accepted,
        eq-eqb (number_in t w) done f.second.layout,
        f.one,
        f.two,
        eq-eqb (channels_of (side_of s v)) (channels_of (side_of t w)) e,
        lt-ltb room (channels_of (side_of s v)) h,
      )
  compared-row r (ComparedGives.fits v w f e h) =
      rw (
        f.first.accepted,
        eq-eqb (number_in s v) done f.first.layout,
        f.second.accepted,
        eq-eqb (number_in t w) done f.second.layout,
        f.one,
        f.two,
        eq-eqb (channels_of (side_of s v)) (channels_of (side_of t w)) e,
        le-ltb room (channels_of (side_of s v)) h,
      )

pub compared-exactly : ComparedExactly
compared-exactly s t room r = (λ e. subst (ComparedGives s t room) e (compared-gives s t room), compared-row s t room r)
