-- Worked rows, computed from the definitions.
use Rattle.std.proofs.Common.{◌≡◌, ℕ, List, [], ◌∷◌, take, map, true, false, Some, None, Result, Ok, Err, refl}
use Rattle.std.specs.Prelude.{◌==◌, count_by}
use Rattle.std.specs.List.{range_with_len}
use Rattle.radio_core.specs.declared.bands.Band.TheVariants.{B3, B4, B5}
use Rattle.radio_core.specs.declared.data_rates.DataRate.TheVariants.{Dr0, Dr1, Dr2, Dr3, Dr4, Dr5, Dr6, Dr7}
use Rattle.radio_core.specs.declared.frames.FrameFault.{FrameFault}
use Rattle.radio_core.specs.declared.frames.FrameFault.TheVariants.{Empty, Major, Kind, Length}
use Rattle.radio_core.specs.declared.frames.Phy.{Phy}
use Rattle.radio_core.specs.declared.frames.Phy.TheVariants.{Join, Accept, Up, Down}
use Rattle.radio_core.specs.Bands.{band_at}
use Rattle.radio_core.specs.Counters.{is_candidate}
use Rattle.radio_core.specs.Frames.{frame_of, read_of}
use Rattle.radio_core.specs.TimeOnAir.{airtime_of}

-- time on air of uplinks, with the payload's CRC, and of downlinks, without
times_up : airtime_of Dr0 12 true ∷ airtime_of Dr5 12 true ∷ airtime_of Dr6 12 true ∷ airtime_of Dr5 13 true ∷ airtime_of Dr0 23 true
    ∷ airtime_of Dr5 23 true ∷ airtime_of Dr0 64 true ∷ airtime_of Dr1 64 true ∷ airtime_of Dr2 64 true ∷ airtime_of Dr3 128 true
    ∷ airtime_of Dr4 255 true ∷ airtime_of Dr5 255 true ∷ airtime_of Dr6 255 true ∷ airtime_of Dr7 12 true ∷ airtime_of Dr7 23 true
    ∷ airtime_of Dr7 255 true ∷ []
    ≡ 1155072 ∷ 41216 ∷ 20608 ∷ 46336 ∷ 1482752
    ∷ 61696 ∷ 2793472 ∷ 1560576 ∷ 698368 ∷ 676864
    ∷ 707072 ∷ 399616 ∷ 199808 ∷ 3680 ∷ 5440
    ∷ 42560 ∷ []
unfolding airtime_of
times_up = refl

times_down : airtime_of Dr0 12 false ∷ airtime_of Dr5 12 false ∷ airtime_of Dr0 17 false ∷ airtime_of Dr5 17 false
    ∷ airtime_of Dr0 33 false ∷ airtime_of Dr5 33 false ∷ airtime_of Dr0 64 false ∷ airtime_of Dr7 12 false
    ∷ airtime_of Dr7 23 false ∷ airtime_of Dr7 255 false ∷ []
    ≡ 991232 ∷ 41216 ∷ 1155072 ∷ 46336
    ∷ 1810432 ∷ 71936 ∷ 2793472 ∷ 3680
    ∷ 5440 ∷ 42560 ∷ []
unfolding airtime_of
times_down = refl

-- a band's upper edge is in it; between bands, across a lower edge and too wide for the band there is none
bands_found : band_at 868537500 Dr0 ∷ band_at 868562500 Dr0 ∷ band_at 868000000 Dr5 ∷ band_at 868500000 Dr6 ∷ band_at 868475000 Dr6
    ∷ band_at 868800000 Dr0 ∷ band_at 869525000 Dr0 ∷ band_at 868537500 Dr7 ∷ band_at 868562500 Dr7 ∷ band_at 868800000 Dr7 ∷ []
    ≡ Some B3 ∷ None ∷ None ∷ None ∷ Some B3
    ∷ Some B4 ∷ Some B5 ∷ Some B3 ∷ None ∷ Some B4 ∷ []
unfolding band_at
bands_found = refl

-- the first counter; 65,536 on; past 65,535; the greatest; above it there is none
candidates : is_candidate None 65535 65535 ∷ is_candidate (Some 5) 5 65541 ∷ is_candidate (Some 65535) 0 65536
    ∷ is_candidate (Some 4294901760) 65535 4294967295 ∷ is_candidate (Some 4294967295) 0 4294967296 ∷ is_candidate (Some 5) 6 65542 ∷ []
    ≡ true ∷ true ∷ true
    ∷ true ∷ false ∷ false ∷ []
candidates = refl

-- the worked frames
abbrev behind_join : List ℕ
behind_join = 0x01 ∷ 0x00 ∷ 0x00 ∷ 0xd0 ∷ 0x7e ∷ 0xd5 ∷ 0xb3 ∷ 0x70 ∷ 0x3c ∷ 0x2b ∷ 0x1a ∷ 0x00 ∷ 0x0b ∷ 0xa3 ∷ 0x04 ∷ 0x00 ∷ 0x00 ∷ 0x00 ∷ 0xa1 ∷ 0xb2 ∷ 0xc3 ∷ 0xd4 ∷ []

join_read : read_of (0 ∷ behind_join) ≡ Ok (Join 0x70b3d57ed0000001 0x0004a30b001a2b3c 0)
unfolding frame_of
join_read = refl

accept_read : read_of (0x20 ∷ 0x00 ∷ 0x01 ∷ 0x02 ∷ 0x03 ∷ 0x04 ∷ 0x05 ∷ 0x06 ∷ 0x07 ∷ 0x08 ∷ 0x09 ∷ 0x0a ∷ 0x0b ∷ 0x0c ∷ 0x0d ∷ 0x0e ∷ 0x0f ∷ []) ≡ Ok Accept
unfolding frame_of
accept_read = refl

abbrev data_with : (mhdr fctrl m n : ℕ) → List ℕ
data_with mhdr fctrl m n = mhdr ∷ 0 ∷ 0 ∷ 0xa0 ∷ 1 ∷ fctrl ∷ m ∷ n ∷ 0x11 ∷ 0x22 ∷ 0x33 ∷ 0x44 ∷ []

data_read : read_of (data_with 0x40 0 0 0) ∷ read_of (data_with 0x40 0 5 0) ∷ read_of (data_with 0x40 0 0xff 0xff) ∷ read_of (data_with 0x60 0 0 0) ∷ []
    ≡ Ok (Up false 0x01a00000 0) ∷ Ok (Up false 0x01a00000 5) ∷ Ok (Up false 0x01a00000 65535) ∷ Ok (Down false 0x01a00000 0) ∷ []
unfolding frame_of
data_read = refl

-- which answers a reading has, counted: a frame, Empty, Major, Kind, Length
abbrev outcome_number : Result Phy FrameFault → ℕ
outcome_number (Ok phy) = 0
outcome_number (Err Empty) = 1
outcome_number (Err Major) = 2
outcome_number (Err Kind) = 3
outcome_number (Err Length) = 4

abbrev tally_of : (ℕ → List ℕ) → ℕ → List ℕ
tally_of text count =
    map (λ place. count_by (λ n. outcome_number (read_of (text n)) == place) (range_with_len 0 count)) (range_with_len 0 5)

-- the join request behind each first octet, its beginnings, and the data frame with each FCtrl
first_octets : tally_of (λ mhdr. mhdr ∷ behind_join) 256 ≡ 8 ∷ 0 ∷ 192 ∷ 16 ∷ 40 ∷ []
unfolding frame_of
first_octets = refl

beginnings : tally_of (λ size. take size (0 ∷ behind_join)) 23 ≡ 0 ∷ 1 ∷ 0 ∷ 0 ∷ 22 ∷ []
unfolding frame_of
beginnings = refl

each_fctrl : tally_of (λ fctrl. data_with 0x40 fctrl 0 0) 256 ≡ 16 ∷ 0 ∷ 0 ∷ 0 ∷ 240 ∷ []
unfolding frame_of
each_fctrl = refl
