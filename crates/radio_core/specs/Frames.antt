-- Frames and their octets (LoRaWAN L2 1.0.4, sections 4 and 6.2). Each frame is the concatenation of its parts.
use Rattle.std.specs.Prelude.{◌≡◌, ◌≢◌, ℕ, zero, suc, ◌+◌, ◌*◌, ◌/◌, ◌%◌, ◌≤◌, ◌==◌, ◌⊎◌, ◌↔◌, true, false, ◌&&◌, ◌||◌, not, if◌then◌else◌, nat_le, List, [], ◌∷◌, ◌++◌, length, take, drop, Option, Some, None, option_map, Result, Err, ok_or}
use Rattle.radio_core.specs.declared.frames.FrameFault.{FrameFault}
use Rattle.radio_core.specs.declared.frames.FrameFault.TheVariants.{Empty, Major, Kind, Length}
use Rattle.radio_core.specs.declared.frames.Phy.{Phy}
use Rattle.radio_core.specs.declared.frames.Phy.TheVariants.{Join, Accept, Up, Down}

-- the number that octets represent, the lowest first
abbrev pub little_endian : List ℕ → ℕ
little_endian [] = 0
little_endian (octet ∷ octets) = octet + 256 * little_endian octets

-- a field of this many octets with this number in it, the lowest octet first
pub record IsField (size : ℕ) (octets : List ℕ) (number : ℕ) : Type 0 where
  pub width : length octets ≡ size
  pub stands_for : little_endian octets ≡ number

-- an MHDR: the frame type in bits 7 to 5 and Major 0 in bits 1 and 0 (section 4.2); the bits between are ignored
-- (this project's)
pub record IsHeader (frame_type mhdr : ℕ) : Type 0 where
  pub kind : mhdr / 32 ≡ frame_type
  pub major : mhdr % 4 ≡ 0

-- a join request: MHDR, JoinEUI, DevEUI, DevNonce, MIC (section 6.2)
pub record IsJoin (text : List ℕ) (join_eui dev_eui nonce : ℕ) : Type 0 where
  pub mhdr : ℕ
  pub join : List ℕ
  pub device : List ℕ
  pub number : List ℕ
  pub mic : List ℕ
  pub header : IsHeader 0 mhdr
  pub join_field : IsField 8 join join_eui
  pub device_field : IsField 8 device dev_eui
  pub nonce_field : IsField 2 number nonce
  pub mic_width : length mic ≡ 4
  pub joined : text ≡ mhdr ∷ join ++ device ++ number ++ mic

-- a join accept: MHDR, and 16 or 32 octets that only keys could read (section 6.2)
pub record IsAccept (text : List ℕ) : Type 0 where
  pub mhdr : ℕ
  pub rest : List ℕ
  pub header : IsHeader 1 mhdr
  pub width : (length rest ≡ 16) ⊎ (length rest ≡ 32)
  pub joined : text ≡ mhdr ∷ rest

-- a data frame: MHDR, DevAddr, FCtrl, FCnt, FOpts of as many octets as FCtrl's low four bits give, then nothing or FPort with FRMPayload,
-- then MIC (section 4.3); at most 255 octets (this project's)
pub record IsData (frame_type : ℕ) (text : List ℕ) (addr fcnt : ℕ) : Type 0 where
  pub mhdr : ℕ
  pub address : List ℕ
  pub fctrl : ℕ
  pub counter : List ℕ
  pub fopts : List ℕ
  pub payload : List ℕ
  pub mic : List ℕ
  pub header : IsHeader frame_type mhdr
  pub address_field : IsField 4 address addr
  pub counter_field : IsField 2 counter fcnt
  pub fopts_width : length fopts ≡ fctrl % 16
  pub mic_width : length mic ≡ 4
  pub size : length text ≤ 255
  pub joined : text ≡ mhdr ∷ address ++ fctrl ∷ [] ++ counter ++ fopts ++ payload ++ mic

-- the octets are this frame
abbrev pub IsFrame : List ℕ → Phy → Type 0
IsFrame text (Join join_eui dev_eui nonce) = IsJoin text join_eui dev_eui nonce
IsFrame text Accept = IsAccept text
IsFrame text (Up confirmed addr fcnt) = IsData (if confirmed then 4 else 2) text addr fcnt
IsFrame text (Down confirmed addr fcnt) = IsData (if confirmed then 5 else 3) text addr fcnt

-- the first octet satisfies P
abbrev pub BeginsWith : (ℕ → Type 0) → List ℕ → Type 0
BeginsWith P [] = ⊥
BeginsWith P (mhdr ∷ body) = P mhdr

-- why the octets are not a frame: each error applies if none before it does
abbrev pub IsFault : List ℕ → FrameFault → Type 0
IsFault text Empty = text ≡ []
IsFault text Major = BeginsWith (λ mhdr. mhdr % 4 ≢ 0) text
IsFault text Kind = BeginsWith (λ mhdr. (mhdr % 4 ≡ 0) × (6 ≤ mhdr / 32)) text
IsFault text Length =
    BeginsWith (λ mhdr. (mhdr % 4 ≡ 0) × (mhdr / 32 ≤ 5)) text × ((phy : Phy) → ¬ IsFrame text phy)

-- ---- the same in forms that compute: the frame that the octets are, if they are one

abbrev pub join_frame : List ℕ → Option Phy
join_frame body =
    if length body == 22
    then Some (Join (little_endian (take 8 body)) (little_endian (take 8 (drop 8 body)))
    (little_endian (take 2 (drop 16 body))))
    else None

abbrev pub accept_of : List ℕ → Option Phy
accept_of body = if length body == 16 || length body == 32 then Some Accept else None

-- the DevAddr and the FCnt of a data frame
abbrev pub fields_of : List ℕ → Option (ℕ × ℕ)
fields_of (a ∷ b ∷ c ∷ d ∷ fctrl ∷ m ∷ n ∷ rest) =
    if nat_le (fctrl % 16 + 4) (length rest) && nat_le (length rest) 247
    then Some (little_endian (a ∷ b ∷ c ∷ d ∷ []), little_endian (m ∷ n ∷ []))
    else None
fields_of _ = None

abbrev pub data_of : (ℕ → ℕ → Phy) → List ℕ → Option Phy
data_of frame body = option_map (λ fields. frame fields.0 fields.1) (fields_of body)

-- the frame of the octets after the MHDR, by the frame type
abbrev pub body_of : ℕ → List ℕ → Option Phy
body_of zero body = join_frame body
body_of (suc zero) body = accept_of body
body_of (suc (suc zero)) body = data_of (Up false) body
body_of (suc (suc (suc zero))) body = data_of (Down false) body
body_of (suc (suc (suc (suc zero)))) body = data_of (Up true) body
body_of (suc (suc (suc (suc (suc zero))))) body = data_of (Down true) body
body_of _ body = None

unfoldable pub frame_of : List ℕ → Option Phy
frame_of [] = None
frame_of (mhdr ∷ body) = if mhdr % 4 == 0 then body_of (mhdr / 32) body else None

-- the first error that applies, if there is no frame
abbrev pub frame_fault : List ℕ → FrameFault
frame_fault [] = Empty
frame_fault (mhdr ∷ body) =
    if not (mhdr % 4 == 0) then Major else (if nat_le 6 (mhdr / 32) then Kind else Length)

-- the frame, or why there is none
abbrev pub read_of : List ℕ → Result Phy FrameFault
read_of text = ok_or (frame_of text) (frame_fault text)

-- the frame that is found is the one that the octets are
abbrev pub FrameIsFound : Type 0
FrameIsFound = (text : List ℕ) (phy : Phy) → (frame_of text ≡ Some phy) ↔ IsFrame text phy

-- the error that is found is the one that the octets have
abbrev pub FaultIsFound : Type 0
FaultIsFound = (text : List ℕ) (fault : FrameFault) → (read_of text ≡ Err fault) ↔ IsFault text fault

-- no octets are two frames
abbrev pub NoTextIsTwoFrames : Type 0
NoTextIsTwoFrames = (text : List ℕ) (one other : Phy) → IsFrame text one → IsFrame text other → one ≡ other
