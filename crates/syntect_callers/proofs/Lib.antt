mod ClassedSoFar
