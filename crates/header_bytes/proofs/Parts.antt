-- The parts of a header in a slice: each is put after the one before it, and together they are the header.
use mathlib.Core.Path.{◌≡◌, refl, sym, ◌∙◌, ap, subst}
use mathlib.Core.Bool.{true, false}
use mathlib.Core.List.{List, [], ◌∷◌, ◌++◌, append-nil}
use Prim.Native.Nat.{ℕ, ◌+◌, ◌≤◌}
use native.Mathlib.Omega.{arith}
use lib.ListN.{length, length-append}
use borrow.Author.Tests.{le-leb}
use Rattle.byte_order.specs.Big.{big_bytes}
use Rattle.byte_order.specs.Rate.{not_aNumber}
use Rattle.byte_order.specs.Splice.{splice, store_first}
use Rattle.byte_order.proofs.Laws.{length-splice, more}
use Rattle.byte_order.proofs.Budget.{whole-done}
use Rattle.byte_order.proofs.Bytes.{be-bytes}
use Rattle.std.specs.Int.{bytes_high_first}
use Rattle.format.specs.Desc.{desc_size, desc_body}
use Rattle.format.specs.declared.AudioFormat.{AudioFormat}
use Rattle.format.proofs.RoundTrip.{desc-length}
use Rattle.layout.specs.Chan.{chan_body, chan_size, chan_put}
use Rattle.layout.specs.Setting.{label_places}
use Rattle.layout.specs.declared.ChannelLayout.{ChannelLayout}
use Rattle.layout.specs.declared.ChannelLayout.TheVariants.{NoLayout, Tagged, Described}
use Rattle.layout.proofs.Descriptions.{chan-length}
use Rattle.reading.specs.Types.{'caff', 'desc', 'chan', 'data', version, type_size, file_header_size, chunk_header_size, edit_size, open_size}
use Rattle.reading.specs.Grammar.{OtherChunk, file_header, chunk_header, chunk, other_chunks, front, bytes_of}
use Rattle.header_bytes.specs.Made.{layout_chunks, header_bytes, start_of}
use Rattle.header_bytes.specs.Put.{before_layout, layout_place, open_head, longest_header, header_fits, header_in}
use Rattle.header_bytes.proofs.Made.{header-length}

-- bytes that are stored whole, and more of them stored right after
module _ (out : List ℕ) (at : ℕ) where
  pub stored : (n : ℕ) (bs : List ℕ) {o₁ : List ℕ} → length bs ≡ n → at + n ≤ length out → o₁ ≡ store_first n bs at out → o₁ ≡ splice out at bs
  stored n bs l h p = p ∙ whole-done n at bs out l h

  pub then-stored : (k n : ℕ) (cs bs : List ℕ) {o₁ o₂ : List ℕ} → length cs ≡ k → length bs ≡ n → at + k + n ≤ length out
      → o₁ ≡ splice out at cs → o₂ ≡ store_first n bs (at + k) o₁ → o₂ ≡ splice out at (cs ++ bs)
  then-stored k n cs bs {o₁} lc lb h p q =
      let l : length o₁ ≡ length out = ap length p ∙ length-splice out at cs (omega arith) in
      more out at k cs bs p (q ∙ whole-done n (at + k) bs o₁ lb (omega arith)) lc (omega arith)

  -- a chunk's header
  pub chunk_header_put : (kind : List ℕ) (size : ℕ) {o₁ o₂ bytes : List ℕ} → length kind ≡ type_size → at + chunk_header_size ≤ length out
      → o₁ ≡ store_first type_size kind at out → bytes ≡ bytes_high_first 8 size → o₂ ≡ store_first 8 bytes (at + type_size) o₁ → o₂ ≡ splice out at (chunk_header kind size)
  chunk_header_put kind size {o₁} l h p b q =
      let r = q ∙ ap (λ (bs : List ℕ). store_first 8 bs (at + type_size) o₁) (b ∙ be-bytes 8 size) in
      then-stored type_size 8 kind (big_bytes 8 size) l refl (omega arith) (stored type_size kind l (omega arith) p) r

  -- the open data chunk
  pub open_put : {o₁ o₂ bytes : List ℕ} → at + length open_head ≤ length out → o₁ ≡ splice out at (chunk_header 'data' open_size)
      → bytes ≡ bytes_high_first edit_size 0 → o₂ ≡ store_first edit_size bytes (at + chunk_header_size) o₁ → o₂ ≡ splice out at open_head
  open_put {o₁} h p b q =
      let r = q ∙ ap (λ (bs : List ℕ). store_first edit_size bs (at + chunk_header_size) o₁) (b ∙ be-bytes edit_size 0) in
      then-stored chunk_header_size edit_size (chunk_header 'data' open_size) (big_bytes edit_size 0) refl refl (omega arith) p r

whole_top : (f : AudioFormat) → file_header ++ chunk_header 'desc' desc_size ++ desc_body f ≡ before_layout f
whole_top f = rw desc-length

top-length : (f : AudioFormat) → length (before_layout f) ≡ layout_place
top-length f = let e = desc-length f in omega arith

module _ (out : List ℕ) (room : longest_header ≤ length out) where
  pub description-put : (f : AudioFormat) {o₁ o₂ o₃ o₄ body : List ℕ} → o₁ ≡ store_first type_size 'caff' 0 out → o₂ ≡ store_first type_size version type_size o₁
      → o₃ ≡ splice o₂ file_header_size (chunk_header 'desc' desc_size) → body ≡ desc_body f → o₄ ≡ store_first desc_size body (file_header_size + chunk_header_size) o₃
      → o₄ ≡ splice out 0 (before_layout f)
  description-put f {o₁} {o₂} {o₃} {o₄} {body} p₁ p₂ p₃ b p₄ =
      let d = desc-length f in
      let a₂ : o₂ ≡ splice out 0 file_header = then-stored out 0 type_size type_size 'caff' version refl refl (omega arith) (stored out 0 type_size 'caff' refl (omega arith) p₁) p₂ in
      let a₃ : o₃ ≡ splice out 0 (file_header ++ chunk_header 'desc' desc_size) = more out 0 file_header_size file_header (chunk_header 'desc' desc_size) a₂ p₃ refl (omega arith) in
      let a₄ : o₄ ≡ splice out 0 (file_header ++ chunk_header 'desc' desc_size ++ desc_body f) =
      then-stored out 0 (file_header_size + chunk_header_size) desc_size (file_header ++ chunk_header 'desc' desc_size) (desc_body f) refl d (omega arith) a₃
      (p₄ ∙ ap (λ (x : List ℕ). store_first desc_size x (file_header_size + chunk_header_size) o₃) b) in
      a₄ ∙ ap (splice out 0) (whole_top f)

  pub chan-put : (t : ℕ) (ls : List ℕ) {o₁ o₂ : List ℕ} → length ls ≤ label_places → o₁ ≡ splice out layout_place (chunk_header 'chan' (chan_size (length ls)))
      → o₂ ≡ chan_put o₁ (layout_place + chunk_header_size) t ls → o₂ ≡ splice out layout_place (chunk 'chan' (chan_body t ls))
  chan-put t ls {o₁} {o₂} few p₁ p₂ =
      let n = chunk_header 'chan' (chan_size (length ls)) in
      let c = chan-length t ls in
      let l : length o₁ ≡ length out = ap length p₁ ∙ length-splice out layout_place n (omega arith) in
      let a : o₂ ≡ splice o₁ (layout_place + chunk_header_size) (chan_body t ls) =
      p₂ ∙ rw (le-leb (length ls) label_places few, le-leb (layout_place + chunk_header_size + chan_size (length ls)) (length o₁) (omega arith)) in
      more out layout_place chunk_header_size n (chan_body t ls) p₁ a refl (omega arith)
      ∙ ap (λ (k : ℕ). splice out layout_place (chunk_header 'chan' k ++ chan_body t ls)) (sym c)

-- a layout's chunk is the only one
pub alone-put : (c : OtherChunk) (out last : List ℕ) (r : ℕ) → (r ≡ layout_place + length (chunk c.type c.body)) × (last ≡ splice out layout_place (chunk c.type c.body))
    → (r ≡ layout_place + length (other_chunks (c ∷ []))) × (last ≡ splice out layout_place (other_chunks (c ∷ [])))
alone-put c out last r p =
    subst (λ (x : List ℕ). (r ≡ layout_place + length x) × (last ≡ splice out layout_place x)) (sym (append-nil (chunk c.type c.body))) p

-- a header is as long as its parts
parts-length : (f : AudioFormat) (layout : ChannelLayout) (ls : List ℕ) → layout_place + length (other_chunks (layout_chunks layout ls)) + length open_head ≡ start_of layout ls
unfolding header_bytes bytes_of front
parts-length f layout ls =
    let o = other_chunks (layout_chunks layout ls) in
    let e = length-append (before_layout f ++ o) open_head in
    let d = length-append (before_layout f) o in
    omega (arith, header-length f layout ls, top-length f)

start_small : (layout : ChannelLayout) (ls : List ℕ) → length ls ≤ label_places → start_of layout ls ≤ longest_header
start_small NoLayout ls h = omega arith
start_small (Tagged t) ls h = omega arith
start_small Described ls h = omega arith

pub header-small : (f : AudioFormat) (layout : ChannelLayout) (ls : List ℕ) → length ls ≤ label_places → length (header_bytes f layout ls) ≤ longest_header
header-small f layout ls h = omega (arith, header-length f layout ls, start_small layout ls h)

-- the end of the layout, and of the header
module _ (f : AudioFormat) (layout : ChannelLayout) (ls : List ℕ) (few : length ls ≤ label_places) where
  pub end-small : layout_place + length (other_chunks (layout_chunks layout ls)) + length open_head ≤ longest_header
  end-small = omega (arith, parts-length f layout ls, start_small layout ls few)

  pub end_is : layout_place + length (other_chunks (layout_chunks layout ls)) + length open_head ≡ length (header_bytes f layout ls)
  end_is = parts-length f layout ls ∙ sym (header-length f layout ls)

  pub header-put : (out : List ℕ) {o₁ o₂ o₃ : List ℕ} {at : ℕ} → longest_header ≤ length out → o₁ ≡ splice out 0 (before_layout f)
      → at ≡ layout_place + length (other_chunks (layout_chunks layout ls)) → o₂ ≡ splice o₁ layout_place (other_chunks (layout_chunks layout ls))
      → o₃ ≡ splice o₂ at open_head → o₃ ≡ splice out 0 (header_bytes f layout ls)
  unfolding header_bytes bytes_of front
  header-put out {o₁} {o₂} {o₃} {at} room p₁ e p₂ p₃ =
      let o = other_chunks (layout_chunks layout ls) in
      let top = before_layout f in
      let small = end-small in
      let t = top-length f in
      let j : length (top ++ o) ≡ at = length-append top o ∙ (let z : length top + length o ≡ at = omega arith in z) in
      let a₂ : o₂ ≡ splice out 0 (top ++ o) = more out 0 layout_place top o p₁ p₂ t (omega arith) in
      let a₃ : o₃ ≡ splice o₂ (0 + at) open_head = p₃ ∙ ap (λ (k : ℕ). splice o₂ k open_head) (let z : at ≡ 0 + at = omega arith in z) in
      more out 0 at (top ++ o) open_head a₂ a₃ j (omega arith)

-- the header that is put
pub fits : (room : ℕ) (f : AudioFormat) (ls : List ℕ) → longest_header ≤ room → length ls ≤ label_places → not_aNumber f.sample_rate ≡ false → header_fits room f ls ≡ true
fits room f ls r few h = rw (le-leb longest_header room r, le-leb (length ls) label_places few, h)

pub header-in : (room : ℕ) (f : AudioFormat) (at : ChannelLayout) (ls : List ℕ) → header_fits room f ls ≡ true → header_in room f at ls ≡ header_bytes f at ls
header-in room f at ls e = rw e
