-- A page written part after part: the header to the front, the ciphertext by a seal that is lent what stands behind it, the tag in its place.
use Rattle.std.proofs.Common.{◌≡◌, ℕ, ◌+◌, ◌-◌, ◌≤◌, List, [], ◌++◌, length, take, drop, replicate, sym, ap, ap₂, ◌∙◌, append_assoc, append-nil, length-append, length-drop, arith, take_all, take_at, drop_at, drop-drop, length-take-le, drop_of_length-le}
use borrow.Rule.Slice.PartMut.{put_mid}
use Rattle.std.proofs.Math.ListN.{length-replicate}
use Rattle.std.proofs.Math.Seq.{sets, sets-eq}
use Rattle.scope.specs.Limits.{most_page_text}
use Rattle.words.specs.Bytes.{little}
use Rattle.words.proofs.Bytes.{little_long}
use Rattle.page.specs.Page.{cipher_of, page_tag}
use Rattle.page.specs.Calls.{seal_number, seal_out, seal_tag}
use Rattle.page.proofs.Answers.{seal_accepted, seal_writes, seal_gives}
use Rattle.page.proofs.Ciphertext.{cipher_length}
use Rattle.page_file.specs.Layout.{iv_of, ad_of, header, padded_text, sealed_under, sealed_page}

pub header_long : (stay : List ℕ) (n day len : ℕ) → length stay ≡ 12 → length (header stay n day len) ≡ 22
unfolding header
header_long stay n day len e =
    length-append (stay ++ little 4 n ++ little 4 day) (little 2 len)
    ∙ ap₂ ◌+◌ (length-append (stay ++ little 4 n) (little 4 day) ∙ ap₂ ◌+◌ (length-append stay (little 4 n) ∙ ap₂ ◌+◌ e (little_long 4 n)) (little_long 4 day)) (little_long 2 len)

pub padded_long : (t : List ℕ) → length t ≤ most_page_text → length (padded_text t) ≡ 474
unfolding padded_text
padded_long t h = length-append t (replicate (474 - length t) 0) ∙ ap (λ (k : ℕ). length t + k) (length-replicate {A = ℕ} (474 - length t) 0) ∙ omega arith

-- three parts, one written after the other
pub in_three : (h c tag out out1 part out2 out3 : List ℕ) → length h ≡ 22 → length c ≡ 474 → length tag ≡ 16 → 512 ≤ length out
    → out1 ≡ h ++ drop 22 out → part ≡ c ++ drop 474 (take (length out1 - 22) (drop 22 out1)) → out2 ≡ put_mid 22 (length out1 - 22) out1 part
    → out3 ≡ sets out2 496 tag → out3 ≡ h ++ c ++ tag ++ drop 512 out
in_three h c tag out out1 part out2 out3 hl cl tl room e1 ep e2 e3 =
    let r = drop 496 out in
    let behind : drop 22 out1 ≡ drop 22 out = ap (drop 22) e1 ∙ drop_at h (drop 22 out) 22 hl in
    let ahead : take 22 out1 ≡ h = ap (take 22) e1 ∙ take_at h (drop 22 out) 22 hl in
    let long1 : length (drop 22 out1) ≡ length out1 - 22 = length-drop 22 out1 in
    let none : drop (length out1 - 22) (drop 22 out1) ≡ [] = drop_of_length-le (drop 22 out1) {i = length out1 - 22} (omega arith) in
    let p : part ≡ c ++ r =
    ep ∙ ap (λ (l : List ℕ). c ++ drop 474 l) (take_all (length out1 - 22) (drop 22 out1) (omega arith) ∙ behind) ∙ ap (λ (l : List ℕ). c ++ l) (drop-drop 474 22 out) in
    let o2 : out2 ≡ h ++ c ++ r =
    e2 ∙ ap₂ (λ (u v : List ℕ). u ++ (part ++ v)) ahead none ∙ ap (λ (l : List ℕ). h ++ l) (append-nil part ∙ p) ∙ sym (append_assoc h c r) in
    let hc : length (h ++ c) ≡ 496 = length-append h c ∙ ap₂ ◌+◌ hl cl in
    let rl : length r ≡ length out - 496 = length-drop 496 out in
    let l2 : length (h ++ c ++ r) ≡ length out = length-append (h ++ c) r ∙ ap₂ ◌+◌ hc rl ∙ omega arith in
    let q : sets (h ++ c ++ r) 496 tag ≡ take 496 (h ++ c ++ r) ++ tag ++ drop (496 + length tag) (h ++ c ++ r) = sets-eq tag (h ++ c ++ r) 496 (omega arith) in
    let d : drop (496 + length tag) (h ++ c ++ r) ≡ drop 512 out =
    ap (λ (k : ℕ). drop (496 + k) (h ++ c ++ r)) tl
    ∙ sym (drop-drop 16 496 (h ++ c ++ r))
    ∙ ap (drop 16) (drop_at (h ++ c) r 496 hc)
    ∙ drop-drop 16 496 out in
    e3 ∙ ap (λ (l : List ℕ). sets l 496 tag) o2 ∙ q ∙ ap₂ (λ (u v : List ℕ). u ++ tag ++ v) (take_at (h ++ c) r 496 hc) d

-- where it seals, nothing is refused
pub page_allowed : (key t out out1 head whole : List ℕ) → length key ≡ 32 → length t ≤ most_page_text → 512 ≤ length out → length head ≡ 22
    → whole ≡ padded_text t → out1 ≡ head ++ drop 22 out → seal_number key (take 16 head) head whole (take (length out1 - 22) (drop 22 out1)) ≡ 0
page_allowed key t out out1 head whole k l room hl ew e1 =
    let wl : length whole ≡ 474 = ap length ew ∙ padded_long t l in
    let long1 : length out1 ≡ length out = ap length e1 ∙ length-append head (drop 22 out) ∙ ap₂ ◌+◌ hl (length-drop 22 out) ∙ omega arith in
    let left = take (length out1 - 22) (drop 22 out1) in
    let ll : length left ≡ length out1 - 22 = length-take-le (length out1 - 22) (drop 22 out1) (omega (arith, length-drop 22 out1)) in
    seal_accepted key (take 16 head) head k (length-take-le 16 head (omega arith)) (omega arith) whole left (omega arith) (omega arith)

-- and the page that they are
pub page_written : (key stay : List ℕ) (n day : ℕ) (t out out1 part out2 out3 tag head whole : List ℕ) → length key ≡ 32 → length stay ≡ 12 → length t ≤ most_page_text → 512 ≤ length out → length tag ≡ 16
    → head ≡ header stay n day (length t) → whole ≡ padded_text t → out1 ≡ head ++ drop 22 out
    → part ≡ seal_out key (take 16 head) head whole (take (length out1 - 22) (drop 22 out1))
    → tag ≡ seal_tag key (take 16 head) head whole (take (length out1 - 22) (drop 22 out1))
    → out2 ≡ put_mid 22 (length out1 - 22) out1 part → out3 ≡ sets out2 496 tag → out3 ≡ sealed_page key stay n day t ++ drop 512 out
unfolding sealed_page sealed_under
page_written key stay n day t out out1 part out2 out3 tag head whole k s l room tl eh ew e1 ep et e2 e3 =
    let hl : length head ≡ 22 = ap length eh ∙ header_long stay n day (length t) s in
    let pl : length (padded_text t) ≡ 474 = padded_long t l in
    let long1 : length out1 ≡ length out = ap length e1 ∙ length-append head (drop 22 out) ∙ ap₂ ◌+◌ hl (length-drop 22 out) ∙ omega arith in
    let left = take (length out1 - 22) (drop 22 out1) in
    let ll : length left ≡ length out1 - 22 = length-take-le (length out1 - 22) (drop 22 out1) (omega (arith, length-drop 22 out1)) in
    let il : length (take 16 head) ≡ 16 = length-take-le 16 head (omega arith) in
    let c = cipher_of key (take 16 head) (padded_text t) in
    let cl : length c ≡ 474 = cipher_length key (take 16 head) (padded_text t) ∙ pl in
    let g : page_tag key (take 16 head) head (padded_text t) ≡ tag = sym (et ∙ ap (λ (x : List ℕ). seal_tag key (take 16 head) head x left) ew ∙ seal_gives key (take 16 head) head k il (omega arith) (padded_text t) left (omega arith) (omega arith)) in
    let w = ep ∙ ap (λ (x : List ℕ). seal_out key (take 16 head) head x left) ew ∙ seal_writes key (take 16 head) head k il (omega arith) (padded_text t) left (omega arith) (omega arith) ∙ ap (λ (m : ℕ). c ++ drop m left) pl in
    in_three head c tag out out1 part out2 out3 hl cl tl room e1 w e2 e3
    ∙ ap (λ (x : List ℕ). head ++ c ++ x ++ drop 512 out) (sym g)
    ∙ ap (λ (d : List ℕ). head ++ c ++ page_tag key (take 16 head) d (padded_text t) ++ drop 512 out) (sym (take_all 22 head (omega arith)))
    ∙ ap (λ (h : List ℕ). h ++ cipher_of key (iv_of h) (padded_text t) ++ page_tag key (iv_of h) (ad_of h) (padded_text t) ++ drop 512 out) eh
